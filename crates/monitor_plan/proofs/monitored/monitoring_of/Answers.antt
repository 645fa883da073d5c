use Rattle.std.proofs.Common.{List, ap, sym, ◌∙◌}
use Rattle.rrc_settings.specs.HandsetsOfCell.{handset_at}
use Rattle.monitor_plan.specs.declared.monitored.MonitoredSet.{MonitoredSet}
use Rattle.monitor_plan.specs.Monitored.{watches_in_sets, watches_monitored}
use Rattle.monitor_plan.proofs.MonitoredSets.{watches_kept}
use Rattle.monitor_plan.proofs.monitored.monitoring_of.Goals as goal

pub returns-clause-watches : goal.returns-clause-watches
returns-clause-watches c =
    let cell = c.args.cell.now in
    ap (λ (sets : List MonitoredSet). watches_monitored sets c.in_ok-candidates.candidates.items) (sym c.as_slice.ensures.value)
    ∙ c.in_ok-candidates.ensures.watches ∙ ap (watches_in_sets c.args.sizes.now) c.as_slice.ensures.value
    ∙ watches_kept cell (handset_at cell c.args.handset) c.args.sizes.now c.args.places.now c.in_ok-sets.sets.items
    c.in_ok-sets.ensures.sets
