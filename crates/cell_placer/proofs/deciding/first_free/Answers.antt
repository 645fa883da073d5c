use Rattle.monitor_plan.specs.declared.watch.Watch.{Watch}
use Rattle.cell_placer.specs.Fate.{is_free}
use Rattle.cell_placer.proofs.SuitableWatches.{begins_at_first}
use Rattle.cell_placer.proofs.deciding.first_free.Goals as goal

pub loop-at-init : goal.loop-at-init
loop-at-init c =
    begins_at_first c.args.grant.now c.args.plan.now (λ (w : Watch). is_free c.args.ledger.now w) c.args.first c.requires.first
