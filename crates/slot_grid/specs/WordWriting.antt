-- Of the code, not of a grid's meaning: what a write to a packed word leaves.
use Rattle.std.specs.Prelude.{◌≡◌, ◌≢◌, ℕ, ◌<◌, Bool}
use Rattle.bits_core.specs.Ones.{has_one}

-- one bit is written, and each other bit stays
pub record IsWith (at : ℕ) (bit : Bool) (old new : ℕ) : Type 0 where
  pub there : has_one new at ≡ bit
  pub others : (i : ℕ) → i < 64 → i ≢ at → has_one new i ≡ has_one old i
