use Rattle.std.proofs.Common.{◌+◌, ◌^◌, ap, arith}
use Rattle.std.specs.Int.RustNames.{bit_xor}
use Rattle.std.proofs.lemmas.Nat.{mod_below, pow_pos}
use Rattle.gold_scrambler.specs.Gold.{x1, x2, GoldValue}
use Rattle.gold_scrambler.proofs.Stretches.{kept}
use Rattle.gold_scrambler.proofs.Windows.{standing_on, sums}
use Rattle.gold_scrambler.proofs.sequence.Gold.next_bits.Goals as goal

pub invariant_of-self : goal.invariant_of-self
invariant_of-self c =
    let g = c.self.inside in
    let states = c.self.invariant.states in
    let here = ap (λ (v : GoldValue). v.at) c.self.view_is in
    standing_on g.c_init g.at c.args.count g.first g.second _ _ c.self.invariant (omega arith)
    c.register_after-self-inside.ensures.small c.register_after-self-inside-2.ensures.small
    (c.register_after-self-inside.ensures.bits x1 (g.at + 1600) (c.first_window-first.ensures (g.at + 1600) states.first_is))
    (c.register_after-self-inside-2.ensures.bits (x2 g.c_init) (g.at + 1600)
    (c.second_window-second.ensures g.c_init (g.at + 1600) c.self.invariant.start states.second_is))

pub returns-clause-bits : goal.returns-clause-bits
returns-clause-bits c =
    let g = c.self.inside in
    let states = c.self.invariant.states in
    let first = c.first_window-first.result in
    let second = c.second_window-second.result in
    let low = kept (bit_xor first second) c.args.count (omega arith) in
    rw (← c.self.view_is, low)
    (sums g.c_init g.at first second c.args.count (omega arith)
    (c.first_window-first.ensures (g.at + 1600) states.first_is)
    (c.second_window-second.ensures g.c_init (g.at + 1600) c.self.invariant.start states.second_is))

pub returns-clause-small : goal.returns-clause-small
returns-clause-small c =
    let sum = bit_xor c.first_window-first.result c.second_window-second.result in
    rw (kept sum c.args.count (omega arith)) (mod_below sum (2 ^ c.args.count) (pow_pos c.args.count))
