-- Grids that are overwritten with an image.
use Rattle.std.proofs.Common.{◌≡◌, ℕ, ◌+◌, ◌*◌, ◌/◌, ◌%◌, ◌<◌, List, Option, Some, None, map, length, get_or, unwrap_or}
use Rattle.std.proofs.Common.{refl, sym, ◌∙◌, ap, arith}
use Rattle.std.specs.List.{range_with_len}
use Rattle.std.proofs.lemmas.Nat.{mul-add-lt, div-mul-add, mod-mul-add, div_below, mod_below, div-add-mod'}
use Rattle.std.proofs.lemmas.List.{same_lists, get_or_default}
use Rattle.std.proofs.lemmas.List.FromFn.{get_or-map-range_with_len, length-map-range_with_len}
use Rattle.slot_grid.specs.declared.places.Point.{Point}
use Rattle.slot_grid.specs.declared.places.Point.TheVariants.{Empty}
use Rattle.slot_grid.specs.Grid.{GridValue, IsGrid, SameNumbers, point_at}
use Rattle.slot_grid.specs.Image.{Image, overwritten, Agrees}
use Rattle.slot_grid.proofs.Points.{point_at_on}

-- two images have the same point at each place that both have
abbrev pub AreCompatible : Image → Image → Type 0
AreCompatible a b = (s c : ℕ) (p q : Point) → a s c ≡ Some p → b s c ≡ Some q → p ≡ q

-- each place of the image is one of the grid
abbrev pub IsWithin : GridValue → Image → Type 0
IsWithin grid image = (s c : ℕ) (p : Point) → image s c ≡ Some p → (s < 14) × (c < 12 * grid.blocks)

-- the point that an overwritten grid has at place i of its list
abbrev point_there : Image → GridValue → ℕ → Point
point_there image grid i =
    unwrap_or (image (i / (12 * grid.blocks)) (i % (12 * grid.blocks))) (get_or grid.points i Empty)

-- an overwritten grid has a point or none at each of its places
pub length-overwritten : (image : Image) (grid : GridValue) → length (overwritten image grid).points ≡ 14 * (12 * grid.blocks)
unfolding overwritten
length-overwritten image grid = length-map-range_with_len (point_there image grid) 0 (14 * (12 * grid.blocks))

-- an overwritten grid keeps its numbers
pub numbers_overwritten : (image : Image) (grid : GridValue) → length grid.points ≡ 14 * (12 * grid.blocks)
    → SameNumbers grid (overwritten image grid)
unfolding overwritten
numbers_overwritten image grid size = record {
  mu = refl;
  frame = refl;
  slot = refl;
  blocks = refl;
  size = length-overwritten image grid ∙ sym size;
}

-- an overwritten grid keeps its slot
pub slot-overwritten : (image : Image) (grid : GridValue) → (overwritten image grid).slot ≡ grid.slot
unfolding overwritten
slot-overwritten image grid = refl

-- an overwritten grid keeps its blocks
pub blocks-overwritten : (image : Image) (grid : GridValue) → (overwritten image grid).blocks ≡ grid.blocks
unfolding overwritten
blocks-overwritten image grid = refl

-- an overwritten grid is a grid
pub overwritten_is : (image : Image) (grid : GridValue) → IsGrid grid → IsGrid (overwritten image grid)
unfolding overwritten
overwritten_is image grid legal = record {
  mu_most = legal.mu_most;
  frame_most = legal.frame_most;
  slot_below = legal.slot_below;
  blocks_least = legal.blocks_least;
  blocks_most = legal.blocks_most;
  size = length-overwritten image grid;
}

-- an overwritten grid has the image's point, or else the point that it had
pub point_at-overwritten : (image : Image) (grid : GridValue) (s c : ℕ) → s < 14 → c < 12 * grid.blocks
    → point_at (overwritten image grid) s c ≡ unwrap_or (image s c) (point_at grid s c)
unfolding overwritten
point_at-overwritten image grid s c h k =
    let w = 12 * grid.blocks in
    let i = s * w + c in
    point_at_on (overwritten image grid) s c k
    ∙ get_or-map-range_with_len (point_there image grid) 0 (14 * w) i i Empty (omega (arith, mul-add-lt s w c 14 h k))
    (omega arith)
    ∙ ap (λ row. unwrap_or (image row (i % w)) (get_or grid.points i Empty)) (div-mul-add s w c k)
    ∙ ap (λ column. unwrap_or (image s column) (get_or grid.points i Empty)) (mod-mul-add s w c k)
    ∙ ap (unwrap_or (image s c)) (sym (point_at_on grid s c k))

abbrev grid_with : ℕ → ℕ → ℕ → ℕ → List Point → GridValue
grid_with mu frame slot blocks points = record { mu = mu; frame = frame; slot = slot; blocks = blocks; points = points }

-- two grids of the same numbers and the same points are one
pub same_grid : (a b : GridValue) → a.mu ≡ b.mu → a.frame ≡ b.frame → a.slot ≡ b.slot → a.blocks ≡ b.blocks
    → a.points ≡ b.points → a ≡ b
same_grid a b m f s n p =
    ap (λ x. grid_with x a.frame a.slot a.blocks a.points) m
    ∙ ap (λ x. grid_with b.mu x a.slot a.blocks a.points) f
    ∙ ap (λ x. grid_with b.mu b.frame x a.blocks a.points) s
    ∙ ap (λ x. grid_with b.mu b.frame b.slot x a.points) n
    ∙ ap (λ x. grid_with b.mu b.frame b.slot b.blocks x) p

-- a list with f i at each place i
same_points : (f : ℕ → Point) (points : List Point) (n : ℕ) → length points ≡ n → ((i : ℕ) → i < n → get_or points i Empty ≡ f i)
    → points ≡ map f (range_with_len 0 n)
same_points f points n size each =
    same_lists points (map f (range_with_len 0 n)) (size ∙ sym (length-map-range_with_len f 0 n))
    (λ k d h. get_or_default points k d Empty h ∙ each k (omega arith)
    ∙ sym (get_or-map-range_with_len f 0 n k k d (omega arith) (omega arith)))

-- a grid of the same numbers that has at each place the image's point, or else the old one, is the overwritten grid
pub overwritten_is_this : (image : Image) (old new : GridValue) → new.mu ≡ old.mu → new.frame ≡ old.frame
    → new.slot ≡ old.slot → new.blocks ≡ old.blocks
    → length new.points ≡ 14 * (12 * old.blocks)
    → ((s c : ℕ) → s < 14 → c < 12 * old.blocks → point_at new s c ≡ unwrap_or (image s c) (point_at old s c))
    → new ≡ overwritten image old
unfolding overwritten
overwritten_is_this image old new m f s n size there =
    let w = 12 * old.blocks in
    same_grid new (overwritten image old) m f s n
    (same_points (point_there image old) new.points (14 * w) size (λ i h.
    let row : i / w < 14 = div_below i w 14 (omega arith) h in
    let column : i % w < w = mod_below i w (omega arith) in
    let here : i / w * w + i % w ≡ i = div-add-mod' i w in
    ap (λ j. get_or new.points j Empty) (sym here)
    ∙ ap (λ b. get_or new.points (i / w * (12 * b) + i % w) Empty) (sym n)
    ∙ sym (point_at_on new (i / w) (i % w) (omega (arith, column, n)))
    ∙ there (i / w) (i % w) row column
    ∙ ap (unwrap_or (image (i / w) (i % w))) (point_at_on old (i / w) (i % w) column)
    ∙ ap (λ j. unwrap_or (image (i / w) (i % w)) (get_or old.points j Empty)) here))

-- a grid that is overwritten with an image has its points
pub agrees_overwritten : (image : Image) (grid : GridValue) → IsWithin grid image → Agrees (overwritten image grid) image
agrees_overwritten image grid within s c p e =
    point_at-overwritten image grid s c (within s c p e).0 (within s c p e).1 ∙ ap (λ o. unwrap_or o (point_at grid s c)) e

-- a place that another image writes over, or leaves
written_over : (written : Option Point) (old p : Point) → old ≡ p → ((q : Point) → written ≡ Some q → p ≡ q)
    → unwrap_or written old ≡ p
written_over None old p e same = e
written_over (Some q) old p e same = sym (same q refl)

-- what agrees with an image agrees with it after another one was written that is like it wherever both have a point
pub agrees_after : (a b : Image) (grid : GridValue) → IsWithin grid a → AreCompatible a b → Agrees grid a
    → Agrees (overwritten b grid) a
agrees_after a b grid within alike agrees s c p e =
    point_at-overwritten b grid s c (within s c p e).0 (within s c p e).1
    ∙ written_over (b s c) (point_at grid s c) p (agrees s c p e) (λ q f. alike s c p q e f)
