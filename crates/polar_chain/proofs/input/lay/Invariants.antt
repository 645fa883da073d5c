use Rattle.std.proofs.Common.{ℕ, ◌≡◌, ◌≢◌, ◌<◌, false, length}
use Rattle.std.specs.Prelude.{slice_index}
use Rattle.bits_core.specs.Bits.{bit_of}
use Rattle.bits_core.specs.Row.{word_bit}
use Rattle.polar_chain.proofs.input.lay.Given as goal

-- the bits so far are laid, and 0 stands at each other position
abbrev pub invariant-loop-bit : goal.invariant-loop-bit
invariant-loop-bit l = record {
  len : length l.words ≡ 8;
  laid_so_far : (bit : ℕ) → bit < l.bit → word_bit l.words (slice_index l.carriers bit) ≡ bit_of l.block bit;
  others : (i : ℕ) → ((bit : ℕ) → bit < l.bit → slice_index l.carriers bit ≢ i) → word_bit l.words i ≡ false;
}
