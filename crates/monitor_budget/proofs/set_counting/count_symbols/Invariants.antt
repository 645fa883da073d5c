use Rattle.std.proofs.Common.{◌+◌, ◌*◌, ◌≤◌, length, map}
use Rattle.std.specs.List.{range_with_len, flat_map}
use Rattle.monitor_budget.specs.Counts.{counted_as, cces_of_candidate}
use Rattle.monitor_budget.specs.SetCandidates.{candidates_among}
use Rattle.monitor_budget.specs.Tally.{AddsCces, AddsCounted}
use Rattle.monitor_budget.proofs.set_counting.count_symbols.Given as goal

abbrev pub invariant-loop-symbol : goal.invariant-loop-symbol
invariant-loop-symbol g l = record {
  counted : AddsCounted l.initial.tally.seen.items l.tally.seen.items
      (map (counted_as l.space.set l.scramble) (candidates_among l.cces l.sizes l.space.set (range_with_len 0 l.symbol)));
  cces : AddsCces l.initial.tally.marks l.tally.marks
      (flat_map (cces_of_candidate l.space.set) (candidates_among l.cces l.sizes l.space.set (range_with_len 0 l.symbol)));
  few : length l.tally.seen.items ≤ length l.initial.tally.seen.items + 80 * l.symbol;
}
