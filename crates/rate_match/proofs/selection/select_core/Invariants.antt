use Rattle.std.proofs.Common.{◌≡◌, take, length}
use Rattle.bits_core.specs.Bits.{bit_of}
use Rattle.rate_match.specs.RateMatching.{selected}
use Rattle.rate_match.proofs.selection.select_core.Given as goal

-- the first bits
abbrev pub invariant-loop-at : goal.invariant-loop-at
invariant-loop-at l = l.out ≡ take l.at (selected (length l.word) l.k l.e (bit_of l.word))
