use Rattle.rate_match.proofs.Ordered.{IsBehind}
use Rattle.rate_match.proofs.packed.behind_zeros.Given as goal

-- the words so far
abbrev pub invariant-loop-at : goal.invariant-loop-at
invariant-loop-at l = IsBehind l.bits l.words l.at
