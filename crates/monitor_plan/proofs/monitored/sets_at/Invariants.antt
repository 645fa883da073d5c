use Rattle.std.proofs.Common.{take}
use Rattle.rrc_settings.specs.HandsetsOfCell.{handset_at}
use Rattle.monitor_plan.proofs.MonitoredSets.{AreKept}
use Rattle.monitor_plan.proofs.monitored.sets_at.Given as goal

-- the sets at the first places
abbrev pub invariant-loop-place : goal.invariant-loop-place
invariant-loop-place l =
    AreKept l.cell (handset_at l.cell l.handset) l.sizes (take l.place-index l.places) l.sets.items
