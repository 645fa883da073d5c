-- Of the code, not of the standard: what the stages of the transform leave of packed words.
use Rattle.std.specs.Prelude.{◌≡◌, ℕ, ◌+◌, ◌<◌, ◌≤◌, ◌==◌, List, length, bit_and, slice_index, if◌then◌else◌}
use Rattle.std.specs.Int.Bits.{bit_xor}
use Rattle.bits_core.specs.Ones.{has_one}
use Rattle.bits_core.specs.Row.{word_bit}
use Rattle.polar_kernel.specs.MatrixWord.{word_at}

-- the mask has its ones at the places of a word with a zero in the digit of `span`
abbrev pub IsStageMask : ℕ → ℕ → Type 0
IsStageMask span mask = (k : ℕ) → k < 64 → has_one mask k ≡ (bit_and k span == 0)

-- the first n bits are the word of what they were, and the others stay
pub record IsPackedWord (n : ℕ) (old new : List ℕ) : Type 0 where
  pub length_is : length new ≡ length old
  pub first : (j : ℕ) → j < n → word_bit new j ≡ word_at n (word_bit old) j
  pub others : (j : ℕ) → n ≤ j → word_bit new j ≡ word_bit old j

-- each of the first `count` words is the word of its own bits, and the others stay
pub record OfEachWord (count : ℕ) (old new : List ℕ) : Type 0 where
  pub length_is : length new ≡ length old
  pub first : (q k : ℕ) → q < count → k < 64 → has_one (slice_index new q) k ≡ word_at 64 (has_one (slice_index old q)) k
  pub others : (q : ℕ) → count ≤ q → slice_index new q ≡ slice_index old q

-- the word at place q after the stage between words: the partner's is added where the digit is zero
abbrev pub staged_word : ℕ → List ℕ → ℕ → ℕ
staged_word span words q =
    if bit_and q span == 0 then bit_xor (slice_index words q) (slice_index words (q + span)) else slice_index words q

-- each of the first `count` words is staged, and the others stay
pub record StagedWords (count span : ℕ) (old new : List ℕ) : Type 0 where
  pub length_is : length new ≡ length old
  pub first : (q : ℕ) → q < count → slice_index new q ≡ staged_word span old q
  pub others : (q : ℕ) → count ≤ q → slice_index new q ≡ slice_index old q
