-- Of the code, not of the standard: numbers whose bits are a stretch of a sequence.
use Rattle.std.specs.Prelude.{◌≡◌, ℕ, ◌+◌, ◌<◌, Bool, List}
use Rattle.bits_core.specs.Ones.{has_one}
use Rattle.bits_core.specs.Row.{word_bit}

-- the low `count` bits of a number, low place first, are those of the sequence x from place n on
pub record HasBits (x : ℕ → Bool) (n count number : ℕ) : Type 0 where
  pub bit : (i : ℕ) → i < count → has_one number i ≡ x (n + i)

-- the first `count` bits of packed words are those of the sequence x from place n on
pub record HaveBits (x : ℕ → Bool) (n count : ℕ) (words : List ℕ) : Type 0 where
  pub bit : (i : ℕ) → i < count → word_bit words i ≡ x (n + i)
