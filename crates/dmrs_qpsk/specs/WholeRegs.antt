-- How the bits of a whole REG are read and kept: of the code, not of the standard.
use Rattle.std.specs.Prelude.{◌≡◌, ℕ, ◌+◌, ◌*◌, ◌^◌, ◌<◌, true, false, List}
use Rattle.bits_core.specs.Ones.{has_one}
use Rattle.bits_core.specs.Row.{word_bit}
use Rattle.coreset_map.specs.DataPlaces.{is_reference}
use Rattle.dmrs_qpsk.specs.PointsOnGrid.{data_rank, reference_rank}

-- a block's word has a point at each place, those at the reference places have the reference bits, and the others the data bits
pub record IsRegRead (word references packed : ℕ) : Type 0 where
  pub there : (k : ℕ) → k < 12 → has_one word (24 + k) ≡ true
  pub reference : (k i : ℕ) → is_reference k ≡ true → i < 2
      → has_one word (2 * k + i) ≡ has_one references (2 * reference_rank k + i)
  pub bit : (k i : ℕ) → k < 12 → is_reference k ≡ false → i < 2 → has_one word (2 * k + i) ≡ has_one packed (2 * data_rank k + i)
  pub small : packed < 2 ^ 18

-- the first `at` bits stay, and 18 bits of a number come behind them
pub record IsAppended (at packed : ℕ) (old new : List ℕ) : Type 0 where
  pub before : (i : ℕ) → i < at → word_bit new i ≡ word_bit old i
  pub behind : (i : ℕ) → i < 18 → word_bit new (at + i) ≡ has_one packed i
