use Rattle.std.proofs.Common.{◌≡◌, ◌+◌, ◌*◌, ◌≤◌, ◌++◌, length}
use Rattle.std.specs.List.{range_with_len, flat_map}
use Rattle.monitor_budget.specs.SetCandidates.{numbered_candidates}
use Rattle.monitor_budget.proofs.candidates.push_level.Given as goal

abbrev pub invariant-loop-candidate : goal.invariant-loop-candidate
invariant-loop-candidate g l = record {
  items : l.out.items ≡ l.initial.out.items
      ++ flat_map (numbered_candidates l.cces l.sizes l.set l.symbol l.i) (range_with_len 0 l.candidate);
  few : length l.out.items ≤ length l.initial.out.items + 2 * l.candidate;
}
