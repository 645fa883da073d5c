-- The test of agreement of a grid with an image, place by place, tells whether it agrees.
use Rattle.std.proofs.Common.{◌≡◌, ◌≢◌, ◌↔◌, ℕ, ◌*◌, ◌<◌, true, Option, Some, None, inl, inr, refl, sym, ◌∙◌, subst}
use Rattle.std.proofs.lemmas.Bool.{cases_lt}
use Rattle.std.proofs.lemmas.Option.{none-some, same_Some}
use Rattle.slot_grid.specs.declared.places.Point.{Point}
use Rattle.slot_grid.specs.declared.places.Point.TheVariants.{Empty, P00, P01, P10, P11}
use Rattle.slot_grid.specs.Grid.{GridValue, IsGrid, point_at}
use Rattle.slot_grid.specs.Image.{Image, Agrees, is_point, is_as_wanted, agrees_at}
use Rattle.slot_grid.proofs.Points.{point_at_past, point_at_below}

-- two points that pass the test are one
pub one_point : (p q : Point) → is_point p q ≡ true → q ≡ p
one_point Empty Empty e = refl
one_point Empty P00 e = cc
one_point Empty P01 e = cc
one_point Empty P10 e = cc
one_point Empty P11 e = cc
one_point P00 Empty e = cc
one_point P00 P00 e = refl
one_point P00 P01 e = cc
one_point P00 P10 e = cc
one_point P00 P11 e = cc
one_point P01 Empty e = cc
one_point P01 P00 e = cc
one_point P01 P01 e = refl
one_point P01 P10 e = cc
one_point P01 P11 e = cc
one_point P10 Empty e = cc
one_point P10 P00 e = cc
one_point P10 P01 e = cc
one_point P10 P10 e = refl
one_point P10 P11 e = cc
one_point P11 Empty e = cc
one_point P11 P00 e = cc
one_point P11 P01 e = cc
one_point P11 P10 e = cc
one_point P11 P11 e = refl

-- a point passes with itself
pub own_point : (p : Point) → is_point p p ≡ true
own_point Empty = refl
own_point P00 = refl
own_point P01 = refl
own_point P10 = refl
own_point P11 = refl

-- a point passes where it is the image's, if the image has one
wanted_to : (wanted : Option Point) (point p : Point) → wanted ≡ Some p → is_as_wanted wanted point ≡ true → point ≡ p
wanted_to None point p e h = absurd (none-some p e)
wanted_to (Some wanted) point p e h = one_point wanted point h ∙ same_Some wanted p e

wanted_from : (wanted : Option Point) (point : Point)
    → ((p : Point) → wanted ≡ Some p → point ≡ p) → is_as_wanted wanted point ≡ true
wanted_from None point f = refl
wanted_from (Some wanted) point f =
    let P : Point → Type 0 = λ p. is_point wanted p ≡ true in
    subst P (sym (f wanted refl)) (own_point wanted)

-- a place that passes has the image's point
pub point-agrees_at : (grid : GridValue) (image : Image) (s c : ℕ) (p : Point) → agrees_at grid image s c ≡ true
    → image s c ≡ Some p → point_at grid s c ≡ p
point-agrees_at grid image s c p h e = wanted_to (image s c) (point_at grid s c) p e h

-- each place of a grid that agrees passes
pub agrees_at-each : (grid : GridValue) (image : Image) (s c : ℕ) → Agrees grid image → agrees_at grid image s c ≡ true
agrees_at-each grid image s c h = wanted_from (image s c) (point_at grid s c) (h s c)

-- a grid agrees with an image exactly where each place passes
pub agrees_exactly : (grid : GridValue) (image : Image) → Agrees grid image ↔ ((s c : ℕ) → agrees_at grid image s c ≡ true)
agrees_exactly grid image = (
  (λ h s c. agrees_at-each grid image s c h),
  (λ h s c p e. point-agrees_at grid image s c p (h s c) e),
)

-- a grid agrees with no image that has a point off the grid
pub agrees_inside : (grid : GridValue) (image : Image) (s c : ℕ) (p : Point) → IsGrid grid → Agrees grid image
    → image s c ≡ Some p → p ≢ Empty
    → (s < 14) × (c < 12 * grid.blocks)
agrees_inside grid image s c p legal h e some =
    let there = h s c p e in
    elim (cases_lt s 14) [
      | inl k ↦ elim (cases_lt c (12 * grid.blocks)) [
        | inl l ↦ (k, l)
        | inr l ↦ absurd (some (sym there ∙ point_at_past grid s c l))
      ]
      | inr k ↦ absurd (some (sym there ∙ point_at_below grid s c legal k))
    ]
