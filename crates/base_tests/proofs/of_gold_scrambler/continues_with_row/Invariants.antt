use Rattle.std.proofs.Common.{◌≡◌, ◌+◌}
use Rattle.base_tests.proofs.of_gold_scrambler.continues_with_row.Given as goal

abbrev pub invariant-loop-at : goal.invariant-loop-at
invariant-loop-at l = l.gold.at ≡ l.initial.gold.at + l.at
