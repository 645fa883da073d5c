-- Of the code, not of a row's meaning: what a write to packed words leaves.
use Rattle.std.specs.Prelude.{◌≡◌, ◌≢◌, ℕ, Bool, List}
use Rattle.bits_core.specs.Row.{word_bit}

-- one bit is written, and each other bit stays
pub record IsWritten (at : ℕ) (bit : Bool) (old new : List ℕ) : Type 0 where
  pub there : word_bit new at ≡ bit
  pub others : (i : ℕ) → i ≢ at → word_bit new i ≡ word_bit old i
