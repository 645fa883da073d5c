use Rattle.std.proofs.Common.{◌+◌, ◌≤◌, length, map, take}
use Rattle.std.specs.List.{flat_map}
use Rattle.monitor_budget.specs.Counts.{cces_of_candidate, counted_as}
use Rattle.monitor_budget.specs.Tally.{AddsCces, AddsCounted}
use Rattle.monitor_budget.proofs.tally.Tally.add.Given as goal

abbrev pub invariant-loop-candidate : goal.invariant-loop-candidate
invariant-loop-candidate g l = record {
  counted : AddsCounted l.initial.self.seen.items l.self.seen.items
      (map (counted_as l.set l.scramble) (take l.candidate-index l.candidates));
  cces : AddsCces l.initial.self.marks l.self.marks (flat_map (cces_of_candidate l.set) (take l.candidate-index l.candidates));
  few : length l.self.seen.items ≤ length l.initial.self.seen.items + l.candidate-index;
}
