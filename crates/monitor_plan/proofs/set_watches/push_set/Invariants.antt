use Rattle.std.proofs.Common.{◌≡◌, ◌++◌, map, take}
use Rattle.rrc_settings.specs.HandsetsOfCell.{handset_at, set_at}
use Rattle.monitor_plan.specs.Watches.{watch_of}
use Rattle.monitor_plan.proofs.set_watches.push_set.Given as goal

abbrev pub invariant-loop-candidate : goal.invariant-loop-candidate
invariant-loop-candidate l =
    l.watches.items ≡ l.initial.watches.items
    ++ map (watch_of l.cell (handset_at l.cell l.handset) l.sizes (set_at (handset_at l.cell l.handset) l.set))
    (take l.candidate-index l.candidate-items)
