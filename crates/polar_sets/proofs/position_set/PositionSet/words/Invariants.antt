use Rattle.std.proofs.Common.{ℕ, ◌≡◌, ◌+◌, ◌*◌, ◌<◌, get_or, length}
use Rattle.bits_core.specs.Bits.{bit_of}
use Rattle.bits_core.specs.Ones.{has_one}
use Rattle.polar_sets.proofs.position_set.PositionSet.words.Given as goal

-- the words so far hold their flags
abbrev pub invariant-loop-at : goal.invariant-loop-at
invariant-loop-at l = record {
  len : length l.words ≡ 8;
  held : (a : ℕ) → a < l.at → (i : ℕ) → i < 64 → has_one (get_or l.words a 0) i ≡ bit_of l.self (64 * a + i);
}
