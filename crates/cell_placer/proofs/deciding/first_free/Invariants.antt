use Rattle.std.proofs.Common.{◌≡◌, ◌&&◌, drop}
use Rattle.std.specs.Prelude.{position}
use Rattle.std.specs.List.{position_from}
use Rattle.monitor_plan.specs.declared.watch.Watch.{Watch}
use Rattle.cell_placer.specs.Suitable.{is_suitable}
use Rattle.cell_placer.specs.Fate.{is_free}
use Rattle.cell_placer.proofs.deciding.first_free.Given as goal

abbrev pub invariant-loop-at : goal.invariant-loop-at
invariant-loop-at l =
    position_from (λ (w : Watch). is_suitable l.grant w && is_free l.ledger w) l.at (drop l.at l.plan)
    ≡ position (λ (w : Watch). is_suitable l.grant w && is_free l.ledger w) l.plan
