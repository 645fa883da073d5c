-- How far the points of a candidate are written: of the code, not of the standard.
use Rattle.std.specs.Prelude.{◌≡◌, ℕ, ◌+◌, ◌*◌, ◌/◌, ◌<◌, Bool, List}
use Rattle.slot_grid.specs.Grid.{GridValue, SameNumbers, point_at}
use Rattle.coreset_map.specs.declared.places.Reg.{Reg}
use Rattle.coreset_map.specs.RegOrder.{reg_at}
use Rattle.dmrs_qpsk.specs.PointsOnGrid.{reg_point}

-- all points of the first n REGs are written, and every other place is as before
pub record AreRegsPut (first id : ℕ) (regs : List Reg) (bits : List Bool) (n : ℕ) (old new : GridValue) : Type 0 where
  pub numbers : SameNumbers old new
  pub there : (j i : ℕ) → j < n → i < 12
      → point_at new (first + (reg_at regs j).symbol) (12 * (reg_at regs j).block + i)
      ≡ reg_point old.slot (first + (reg_at regs j).symbol) id (reg_at regs j).block bits j i
  pub others : (s c : ℕ)
      → ((j : ℕ) → j < n → first + (reg_at regs j).symbol ≡ s → (reg_at regs j).block ≡ c / 12 → ⊥)
      → point_at new s c ≡ point_at old s c
