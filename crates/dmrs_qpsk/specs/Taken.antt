-- How the points of a candidate are read: of the code, not of the standard.
use Rattle.std.specs.Prelude.{◌≡◌, ℕ, ◌+◌, ◌*◌, ◌/◌, ◌%◌, ◌<◌, Bool, true, false, List, [], ◌∷◌, ◌++◌, length}
use Rattle.slot_grid.specs.Grid.{GridValue, point_at}
use Rattle.coreset_map.specs.declared.places.Reg.{Reg}
use Rattle.coreset_map.specs.DataPlaces.{is_reference}
use Rattle.coreset_map.specs.RegOrder.{reg_at}
use Rattle.dmrs_qpsk.specs.Modulation.{point_of}
use Rattle.dmrs_qpsk.specs.PointsOnGrid.{data_rank, reference_rank, reg_point}
use Rattle.dmrs_qpsk.specs.ReferencePoints.{reference}

-- subcarrier k of a block has its reference point and no bits come to those so far, or it has the point of two bits, and these
-- come to them
pub record IsPointTaken (grid : GridValue) (symbol id block k : ℕ) (old new : List Bool) : Type 0 where
  pub reference_is : is_reference k ≡ true
      → (point_at grid symbol (12 * block + k) ≡ reference grid.slot symbol id block (reference_rank k)) × (new ≡ old)
  pub data_is : is_reference k ≡ false
      → (a b : Bool) × (point_at grid symbol (12 * block + k) ≡ point_of a b) × (new ≡ old ++ a ∷ b ∷ [])

-- subcarrier k of REG j has the point of its bits, or its reference point
abbrev pub HasPoint : GridValue → ℕ → ℕ → List Reg → List Bool → ℕ → ℕ → Type 0
HasPoint grid first id regs bits j k =
    let symbol = first + (reg_at regs j).symbol in
    let block = (reg_at regs j).block in
    point_at grid symbol (12 * block + k) ≡ reg_point grid.slot symbol id block bits j k

-- the first n places of the REGs are read, 12 a REG
pub record ArePointsTaken (grid : GridValue) (first id : ℕ) (regs : List Reg) (bits : List Bool) (n : ℕ) : Type 0 where
  pub size : length bits ≡ 18 * (n / 12) + 2 * data_rank (n % 12)
  pub there : (m : ℕ) → m < n → HasPoint grid first id regs bits (m / 12) (m % 12)
