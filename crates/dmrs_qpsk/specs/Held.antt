-- What a grid holds on the REGs of a candidate (3GPP TS 38.211, 7.3.2.4, 7.3.2.5 and 7.4.1.3.2): bits, or a place that is bad.
use Rattle.std.specs.Prelude.{◌≡◌, ◌≢◌, ℕ, ◌+◌, ◌*◌, ◌/◌, ◌%◌, ◌<◌, ◌≤◌, Bool, true, false, List, length}
use Rattle.slot_grid.specs.declared.places.Point.{Point}
use Rattle.slot_grid.specs.declared.places.Point.TheVariants.{Empty as NoPoint}
use Rattle.slot_grid.specs.Grid.{GridValue, point_at}
use Rattle.slot_grid.specs.Image.{Agrees}
use Rattle.dmrs_qpsk.specs.declared.taking.BadPlace.{BadPlace}
use Rattle.dmrs_qpsk.specs.declared.taking.Flaw.{Flaw}
use Rattle.dmrs_qpsk.specs.declared.taking.Flaw.TheVariants.{Empty, Reference}
use Rattle.coreset_map.specs.declared.places.Reg.{Reg}
use Rattle.coreset_map.specs.DataPlaces.{is_reference}
use Rattle.coreset_map.specs.RegOrder.{reg_at}
use Rattle.dmrs_qpsk.specs.PointsOnGrid.{reference_rank, image_of}
use Rattle.dmrs_qpsk.specs.ReferencePoints.{reference}

-- there are 18 bits for each REG, and the grid has their points and the reference points at the places of the REGs
abbrev pub Holds : GridValue → ℕ → ℕ → List Reg → List Bool → Type 0
Holds grid first id regs bits = (length bits ≡ 18 * length regs) × Agrees grid (image_of grid.slot first id regs bits)

-- what is wrong with the point at subcarrier k of a block: a data place is empty, or a reference place has not its reference
-- point
abbrev pub IsFlawed : ℕ → ℕ → ℕ → ℕ → ℕ → Point → Flaw → Type 0
IsFlawed slot symbol id block k point Empty = (is_reference k ≡ false) × (point ≡ NoPoint)
IsFlawed slot symbol id block k point Reference =
    (is_reference k ≡ true) × (point ≢ reference slot symbol id block (reference_rank k))

-- a place of one of the REGs has this flaw
pub record IsBad (grid : GridValue) (first id : ℕ) (regs : List Reg) (bad : BadPlace) : Type 0 where
  pub reg : ℕ
  pub within : reg < length regs
  pub symbol_is : bad.symbol ≡ first + (reg_at regs reg).symbol
  pub block_is : bad.subcarrier / 12 ≡ (reg_at regs reg).block
  pub flawed : IsFlawed grid.slot bad.symbol id (bad.subcarrier / 12) (bad.subcarrier % 12)
      (point_at grid bad.symbol bad.subcarrier) bad.flaw

-- a place is bad, and no bad place is in an earlier symbol, or in the same one at a lower subcarrier
pub record IsFirstBad (grid : GridValue) (first id : ℕ) (regs : List Reg) (bad : BadPlace) : Type 0 where
  pub is_bad : IsBad grid first id regs bad
  pub earliest : (other : BadPlace) → IsBad grid first id regs other
      → (bad.symbol ≤ other.symbol) × (bad.symbol ≡ other.symbol → bad.subcarrier ≤ other.subcarrier)
