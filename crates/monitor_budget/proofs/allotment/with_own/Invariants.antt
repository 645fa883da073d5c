use Rattle.std.proofs.Common.{◌≡◌, ◌++◌, true, take}
use Rattle.monitor_budget.specs.Tally.{Tallies}
use Rattle.monitor_budget.specs.Allotting.{allotment_of, keep_limits}
use Rattle.monitor_budget.proofs.allotment.with_own.Given as goal

abbrev pub invariant-loop-place : goal.invariant-loop-place
invariant-loop-place l = record {
  allotment : l.allotment ≡ allotment_of l.cell l.handset l.sizes (l.fn.common.items ++ take l.place-index l.own);
  tally : Tallies l.cell l.handset l.sizes (l.fn.common.items ++ take l.place-index l.own) l.tally;
  within : keep_limits l.cell l.handset l.sizes (l.fn.common.items ++ take l.place-index l.own) ≡ true;
}
