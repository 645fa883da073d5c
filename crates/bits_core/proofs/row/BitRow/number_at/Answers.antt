use Rattle.std.proofs.Common.{◌<◌, ◌*◌, ◌+◌, ◌^◌, arith, subst, sym, ℕ}
use Rattle.bits_core.proofs.Numbers.{one_more_read, room_for_digit, from_bool_lt}
use Rattle.bits_core.proofs.row.BitRow.number_at.Goals as goal

pub overflow_mul-number : goal.overflow_mul-number
overflow_mul-number g c =
    let room : 2 * c.loop-at.number + 0 < 2 ^ 32 =
    room_for_digit c.args.self.now c.args.place c.loop-at.at c.loop-at.number 0 (omega arith) c.loop-at.invariant (omega arith)
    in
    omega arith

pub overflow_add-number : goal.overflow_add-number
overflow_add-number g c =
    let small : c.from.result < 2 = let P : ℕ → Type 0 = λ d. d < 2 in subst P (sym c.from.ensures) (from_bool_lt c.get.result) in
    let room : 2 * c.loop-at.number + c.from.result < 2 ^ 32 =
    room_for_digit c.args.self.now c.args.place c.loop-at.at c.loop-at.number c.from.result (omega arith)
    c.loop-at.invariant small
    in
    omega arith

pub loop-at-preserved : goal.loop-at-preserved
loop-at-preserved g c =
    one_more_read c.args.self.now c.args.place c.loop-at.at c.loop-at.number c.get.result c.from.result (omega arith)
    c.loop-at.invariant c.get.ensures c.from.ensures
