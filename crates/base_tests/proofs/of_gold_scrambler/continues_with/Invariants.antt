use Rattle.std.proofs.Common.{◌≡◌, ◌+◌}
use Rattle.base_tests.proofs.of_gold_scrambler.continues_with.Given as goal

abbrev pub invariant-loop-digit : goal.invariant-loop-digit
invariant-loop-digit l = l.gold.at ≡ l.initial.gold.at + l.digit-index
