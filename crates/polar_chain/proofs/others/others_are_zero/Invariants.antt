use Rattle.std.proofs.Common.{ℕ, ◌≡◌, ◌*◌, ◌<◌, false}
use Rattle.bits_core.specs.Bits.{bit_of}
use Rattle.bits_core.specs.Row.{word_bit}
use Rattle.polar_chain.proofs.KnownWords.{is_wrong}
use Rattle.polar_chain.proofs.others.others_are_zero.Given as goal

-- each position so far that is tested is 0
abbrev pub invariant-loop-at : goal.invariant-loop-at
invariant-loop-at l = (i : ℕ) → i < 64 * l.at → is_wrong (bit_of l.word) (word_bit l.tested) i ≡ false
