-- The points of a grid: those of its list, and none off the grid.
use Rattle.std.proofs.Common.{◌≡◌, ℕ, ◌+◌, ◌*◌, ◌<◌, ◌≤◌, get_or, inl, inr, refl, sym, ◌∙◌, arith}
use Rattle.std.proofs.Math.Nat.{mul-le-mul_right}
use Rattle.std.proofs.lemmas.Bool.{cases_lt, cond_below, cond_above}
use Rattle.std.proofs.lemmas.List.{get_or_past}
use Rattle.slot_grid.specs.declared.places.Point.TheVariants.{Empty}
use Rattle.slot_grid.specs.Grid.{GridValue, IsGrid, point_at}

-- a place of a row has the point of the list
pub point_at_on : (grid : GridValue) (s c : ℕ) → c < 12 * grid.blocks
    → point_at grid s c ≡ get_or grid.points (s * (12 * grid.blocks) + c) Empty
point_at_on grid s c h = sym (cond_below c (12 * grid.blocks) (get_or grid.points (s * (12 * grid.blocks) + c) Empty) Empty h)

-- a place past the row has none
pub point_at_past : (grid : GridValue) (s c : ℕ) → 12 * grid.blocks ≤ c → point_at grid s c ≡ Empty
point_at_past grid s c h =
    sym (cond_above c (12 * grid.blocks) (get_or grid.points (s * (12 * grid.blocks) + c) Empty) Empty Empty h refl)

-- a place past the last symbol has none
pub point_at_below : (grid : GridValue) (s c : ℕ) → IsGrid grid → 14 ≤ s → point_at grid s c ≡ Empty
point_at_below grid s c legal h =
    let w = 12 * grid.blocks in
    elim (cases_lt c w) [
      | inl l ↦
          point_at_on grid s c l
          ∙ get_or_past grid.points (s * w + c) Empty (omega (arith, legal.size, mul-le-mul_right {m = 14} {n = s} w h))
      | inr l ↦ point_at_past grid s c l
    ]
