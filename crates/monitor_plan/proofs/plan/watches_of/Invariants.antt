use Rattle.std.proofs.Common.{take}
use Rattle.rrc_settings.specs.HandsetsOfCell.{handset_at}
use Rattle.monitor_plan.proofs.WatchParts.{ArePushed}
use Rattle.monitor_plan.proofs.plan.watches_of.Given as goal

-- the watches of the first places
abbrev pub invariant-loop-place : goal.invariant-loop-place
invariant-loop-place l =
    ArePushed l.cell (handset_at l.cell l.handset) l.sizes (take l.place-index l.places) l.place-index l.watches.items
