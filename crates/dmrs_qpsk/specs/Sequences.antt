-- How far the sequence of a symbol's reference points was read: of the code, not of the standard.
use Rattle.std.specs.Prelude.{◌≡◌, ℕ, ◌≤◌, ◌^◌}
use Rattle.gold_scrambler.specs.Gold.{GoldValue}

-- the sequence of a start value, of which the first `at` bits were passed
pub record SequenceValue : Type 0 where
  pub start : ℕ
  pub at : ℕ

-- the generator stands there
pub record IsSequence (start at : ℕ) (gold : GoldValue) : Type 0 where
  pub c_init : gold.c_init ≡ start
  pub place : gold.at ≡ at
  pub within : at ≤ 2 ^ 30
