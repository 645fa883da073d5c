use Rattle.rate_match.specs.Repeats.{RepeatsBelow}
use Rattle.rate_match.proofs.selection.first_differing.Given as goal

-- the repeats so far are the same
abbrev pub invariant-loop-at : goal.invariant-loop-at
invariant-loop-at l = RepeatsBelow l.n l.bits l.at
