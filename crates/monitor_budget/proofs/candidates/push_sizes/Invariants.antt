use Rattle.std.proofs.Common.{◌≡◌, ◌+◌, ◌++◌, map, length, take}
use Rattle.monitor_budget.specs.SetCandidates.{sized}
use Rattle.monitor_budget.proofs.candidates.push_sizes.Given as goal

abbrev pub invariant-loop-size : goal.invariant-loop-size
invariant-loop-size g l = record {
  items : l.out.items ≡ l.initial.out.items ++ map (sized l.candidate) (take l.size-index l.sizes);
  long : length l.out.items ≡ length l.initial.out.items + l.size-index;
}
