use Rattle.std.proofs.Common.{arith}
use Rattle.grid_file.proofs.HeadSteps.{slots_no_wrap, slots_le}
use Rattle.std.proofs.lemmas.Nat.{pow_pos}
use Rattle.grid_file.proofs.head.slots_in_frame.Goals as goal

pub returns-clause-value : goal.returns-clause-value
returns-clause-value c = slots_no_wrap c.args.mu c.requires

pub returns-clause-range : goal.returns-clause-range
returns-clause-range c =
    let whole = slots_no_wrap c.args.mu c.requires in
    let most = slots_le c.args.mu c.requires in
    let some = pow_pos c.args.mu in
    record { some = omega arith; most = omega arith; short = omega arith; longer = omega arith }
