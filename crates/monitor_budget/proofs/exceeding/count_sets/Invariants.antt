use Rattle.std.proofs.Common.{◌*◌, ◌≤◌, length, take}
use Rattle.monitor_budget.specs.Tally.{Tallies}
use Rattle.monitor_budget.proofs.exceeding.count_sets.Given as goal

abbrev pub invariant-loop-place : goal.invariant-loop-place
invariant-loop-place l = record {
  tally : Tallies l.cell l.handset l.sizes (take l.place-index l.places) l.tally;
  few : length l.tally.seen.items ≤ 1120 * l.place-index;
}
