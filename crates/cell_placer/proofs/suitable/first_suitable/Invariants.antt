use Rattle.std.proofs.Common.{◌≡◌, drop}
use Rattle.std.specs.Prelude.{position}
use Rattle.std.specs.List.{position_from}
use Rattle.cell_placer.specs.Suitable.{is_suitable}
use Rattle.cell_placer.proofs.suitable.first_suitable.Given as goal

abbrev pub invariant-loop-at : goal.invariant-loop-at
invariant-loop-at l = position_from (is_suitable l.grant) l.at (drop l.at l.plan) ≡ position (is_suitable l.grant) l.plan
