use Rattle.std.proofs.Common.{◌≡◌, true, take}
use Rattle.monitor_budget.specs.Tally.{Tallies}
use Rattle.monitor_budget.specs.Allotting.{keep_limits}
use Rattle.monitor_budget.proofs.counting.keep_together.Given as goal

abbrev pub invariant-loop-place : goal.invariant-loop-place
invariant-loop-place l = record {
  tally : Tallies l.cell l.handset l.sizes (take l.place-index l.places) l.tally;
  within : keep_limits l.cell l.handset l.sizes (take l.place-index l.places) ≡ true;
}
