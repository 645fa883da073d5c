-- The reference bits that are kept for each symbol of a slot: of the code, not of the standard.
use Rattle.std.specs.Prelude.{◌≡◌, ℕ, ◌+◌, ◌*◌, ◌^◌, ◌<◌, List, [], length, slice_index, slice_index_or}
use Rattle.bits_core.specs.Ones.{has_one}
use Rattle.gold_scrambler.specs.Gold.{gold}

-- 28 words of 60 bits each are the first bits of the sequence of a start value: six for each block, ten blocks a word
pub record AreBitsOf (start : ℕ) (words : List ℕ) : Type 0 where
  pub size : length words ≡ 28
  pub bit : (index i : ℕ) → index < 28 → i < 60 → has_one (slice_index words index) i ≡ gold start (60 * index + i)

-- each symbol with a start value has the words of its sequence
pub record AreKept (starts : List ℕ) (words : List (List ℕ)) : Type 0 where
  pub starts_size : length starts ≡ 14
  pub words_size : length words ≡ 14
  pub kept : (symbol : ℕ) → symbol < 14 → slice_index starts symbol < 2 ^ 31
      → AreBitsOf (slice_index starts symbol) (slice_index_or words symbol [])
