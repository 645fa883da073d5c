-- Of the code, not of the standard: pieces of packed words, and what is left where they are put in another order.
use Rattle.std.specs.Prelude.{◌≡◌, ℕ, ◌+◌, ◌*◌, ◌<◌, ◌≤◌, false, List, slice_index}
use Rattle.bits_core.specs.Ones.{has_one}
use Rattle.bits_core.specs.Row.{word_bit}

-- pieces of `width` bits of which no two words share one
pub record IsWidth (width : ℕ) : Type 0 where
  pub count : ℕ
  pub whole : count * width ≡ 64
  pub short : width < 64

-- the `width` bits from place `at` on are those of `piece`, and each other bit stays
pub record IsPut (at width piece : ℕ) (old new : List ℕ) : Type 0 where
  pub there : (r : ℕ) → r < width → word_bit new (at + r) ≡ has_one piece r
  pub below : (i : ℕ) → i < at → word_bit new i ≡ word_bit old i
  pub above : (i : ℕ) → at + width ≤ i → word_bit new i ≡ word_bit old i

-- the first `count` pieces of `to` are those of `from` that the table names, and zeros stand past them
pub record IsReordered (table : List ℕ) (width : ℕ) (from to : List ℕ) (count : ℕ) : Type 0 where
  pub placed :
      (turn r : ℕ) → turn < count → r < width →
      word_bit to (turn * width + r) ≡ word_bit from (slice_index table turn * width + r)
  pub empty : (i : ℕ) → count * width ≤ i → word_bit to i ≡ false
