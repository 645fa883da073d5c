use Rattle.rate_match.proofs.Unselected.{IsPut}
use Rattle.rate_match.proofs.selection.unselect_bits.Given as goal

-- the first bits are put in their positions
abbrev pub invariant-loop-at : goal.invariant-loop-at
invariant-loop-at l = IsPut l.n l.k l.bits l.word l.at
