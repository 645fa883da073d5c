use Rattle.std.proofs.Common.{◌≡◌, ◌+◌, ◌*◌, ◌≤◌, ◌++◌, length}
use Rattle.std.specs.List.{range_with_len, flat_map}
use Rattle.monitor_budget.specs.SetCandidates.{level_candidates}
use Rattle.monitor_budget.proofs.candidates.push_symbol.Given as goal

abbrev pub invariant-loop-i : goal.invariant-loop-i
invariant-loop-i g l = record {
  items : l.out.items ≡ l.initial.out.items ++ flat_map (level_candidates l.cces l.sizes l.set l.symbol) (range_with_len 0 l.i);
  few : length l.out.items ≤ length l.initial.out.items + 16 * l.i;
}
