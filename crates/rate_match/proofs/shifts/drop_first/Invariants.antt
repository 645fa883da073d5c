use Rattle.rate_match.proofs.WrittenWords.{IsDropped}
use Rattle.rate_match.proofs.shifts.drop_first.Given as goal

-- the words so far
abbrev pub invariant-loop-at : goal.invariant-loop-at
invariant-loop-at l = IsDropped l.count l.at l.initial.words l.words
