-- One place of a grid is written.
use Rattle.std.proofs.Common.{◌≡◌, ℕ, ◌+◌, ◌*◌, ◌<◌, ◌≢◌, length, inl, inr, refl, sym, ◌∙◌, arith}
use Rattle.std.proofs.Common.{get_or-set_same, get_or-set_other}
use Rattle.std.proofs.lemmas.Bool.{cases_lt}
use Rattle.std.proofs.lemmas.Nat.{mul-add-lt, same_from_place}
use Rattle.std.proofs.lemmas.List.{length-set}
use Rattle.slot_grid.specs.declared.places.Point.{Point}
use Rattle.slot_grid.specs.declared.places.Point.TheVariants.{Empty}
use Rattle.slot_grid.specs.Grid.{GridValue, IsPut, point_at, with_point}
use Rattle.slot_grid.proofs.Points.{point_at_on, point_at_past}

-- every other place of the grid, and each off the grid, has the point that it had
others_stay : (s c : ℕ) (p : Point) (g : GridValue) → c < 12 * g.blocks → (t d : ℕ) → (t ≡ s → d ≡ c → ⊥)
    → point_at (with_point s c p g) t d ≡ point_at g t d
others_stay s c p g l t d other =
    let w = 12 * g.blocks in
    let new = with_point s c p g in
    elim (cases_lt d w) [
      | inl m ↦
          let apart : t * w + d ≢ s * w + c = λ e. let (row, column) = same_from_place t d s c w m l e in other row column in
          point_at_on new t d m
          ∙ get_or-set_other g.points (s * w + c) (t * w + d) p Empty apart
          ∙ sym (point_at_on g t d m)
      | inr m ↦ point_at_past new t d m ∙ sym (point_at_past g t d m)
    ]

-- a grid with another point at one of its places has that point there, and its own at every other
pub put-with_point : (s c : ℕ) (p : Point) (g : GridValue) → length g.points ≡ 14 * (12 * g.blocks) → s < 14 → c < 12 * g.blocks
    → IsPut s c p g (with_point s c p g)
put-with_point s c p g size k l =
    let w = 12 * g.blocks in
    let at = s * w + c in
    record {
      numbers = record { mu = refl; frame = refl; slot = refl; blocks = refl; size = length-set g.points at p };
      there =
          point_at_on (with_point s c p g) s c l
          ∙ get_or-set_same g.points at p Empty (omega (arith, mul-add-lt s w c 14 k l));
      others = others_stay s c p g l;
    }
