use Rattle.std.proofs.Common.{◌≡◌, ◌+◌, ◌*◌, ◌≤◌, ◌++◌, length}
use Rattle.std.specs.List.{range_with_len, flat_map, filter}
use Rattle.rrc_settings.specs.BitSets.{has_bit}
use Rattle.monitor_budget.specs.SetCandidates.{symbol_candidates}
use Rattle.monitor_budget.proofs.candidates.push_set.Given as goal

abbrev pub invariant-loop-symbol : goal.invariant-loop-symbol
invariant-loop-symbol l = record {
  items : l.out.items ≡ l.initial.out.items
      ++ flat_map (symbol_candidates l.cces l.sizes l.set) (filter (has_bit l.set.symbols) (range_with_len 0 l.symbol));
  few : length l.out.items ≤ length l.initial.out.items + 80 * l.symbol;
}
