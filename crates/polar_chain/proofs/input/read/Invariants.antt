use Rattle.std.proofs.Common.{ℕ, ◌≡◌, ◌<◌, ◌≤◌, false, length}
use Rattle.std.specs.Prelude.{slice_index}
use Rattle.bits_core.specs.Bits.{bit_of}
use Rattle.bits_core.specs.Row.{word_bit}
use Rattle.polar_chain.proofs.input.read.Given as goal

-- the bits so far are read, and 0 stands past them
abbrev pub invariant-loop-bit : goal.invariant-loop-bit
invariant-loop-bit l = record {
  len : length l.words ≡ 3;
  read_so_far : (bit : ℕ) → bit < l.bit → word_bit l.words bit ≡ bit_of l.word (slice_index l.carriers bit);
  rest : (bit : ℕ) → l.bit ≤ bit → word_bit l.words bit ≡ false;
}
