use Rattle.std.proofs.Common.{◌≡◌, ◌+◌, refl, ◌∙◌, ap, subst, arith, drop}
use Rattle.grid_file.specs.Reading.{place_of, IsPlacedTo, LeavesPattern}
use Rattle.slot_grid.proofs.Numbers.{own_numbers}
use Rattle.grid_file.proofs.Exits.{exit_keeps}
use Rattle.grid_file.proofs.Placing.{all_placed, end_leaves, more_leaves, not_there, start_leaves, start_placed}
use Rattle.grid_file.proofs.points.read_points.Goals as goal

pub returns-then-not-has-clause-leaves : goal.returns-then-not-has-clause-leaves
returns-then-not-has-clause-leaves c =
    start_leaves c.args.grid.now.blocks c.args.bytes.now c.args.start (not_there c.has.result c.has.ensures.1 c.if-not-has.true)

pub loop-symbol-init : goal.loop-symbol-init
loop-symbol-init c =
    let grid = c.args.grid.now in
    record {
      placed = start_placed grid.blocks c.args.bytes.now c.args.start grid refl (c.has.ensures.0 c.if-not-has.false);
      keeps = own_numbers grid;
    }

pub returns-in_err-end-clause-leaves : goal.returns-in_err-end-clause-leaves
returns-in_err-end-clause-leaves c =
    let a = c.args in
    let l = c.loop-symbol in
    let b = a.grid.now.blocks in
    let value = c.blocks-2.ensures.value ∙ l.invariant.keeps.blocks in
    let place = ap (λ n. a.start + n) (c.place_of.ensures ∙ ap (λ n. place_of n 14 0) value) in
    let all : l.symbol ≡ 14 = omega arith in
    let placed = subst (λ n. IsPlacedTo (drop a.start a.bytes.now) b n 0 l.grid) all l.invariant.placed in
    let fault = c.in_err-end.field-0.0 in
    exit_keeps (λ f. LeavesPattern b a.bytes.now a.start f.at) c.from_residual-in_err-end.result fault
    c.from_residual-in_err-end.ensures.1
    (end_leaves b a.bytes.now a.start (a.start + c.place_of.result) fault.at l.grid placed place c.in_err-end.ensures.leaves)

pub returns-then-end-bytes-clause-leaves : goal.returns-then-end-bytes-clause-leaves
returns-then-end-bytes-clause-leaves c =
    let a = c.args in
    let l = c.loop-symbol in
    let b = a.grid.now.blocks in
    let value = c.blocks-2.ensures.value ∙ l.invariant.keeps.blocks in
    let place = ap (λ n. a.start + n) (c.place_of.ensures ∙ ap (λ n. place_of n 14 0) value) in
    let all : l.symbol ≡ 14 = omega arith in
    let placed = subst (λ n. IsPlacedTo (drop a.start a.bytes.now) b n 0 l.grid) all l.invariant.placed in
    more_leaves b a.bytes.now a.start (a.start + c.place_of.result) c.in_ok-end.end l.grid placed place
    c.in_ok-end.ensures.read c.if-end-bytes.true

pub returns-clause-read : goal.returns-clause-read
returns-clause-read c =
    let a = c.args in
    let l = c.loop-symbol in
    let b = a.grid.now.blocks in
    let value = c.blocks-2.ensures.value ∙ l.invariant.keeps.blocks in
    let place = ap (λ n. a.start + n) (c.place_of.ensures ∙ ap (λ n. place_of n 14 0) value) in
    let all : l.symbol ≡ 14 = omega arith in
    let placed = subst (λ n. IsPlacedTo (drop a.start a.bytes.now) b n 0 l.grid) all l.invariant.placed in
    all_placed b a.bytes.now a.start (a.start + c.place_of.result) c.in_ok-end.end l.grid placed place
    c.in_ok-end.ensures.read c.if-end-bytes.false
