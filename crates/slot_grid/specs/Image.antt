-- What is written on a grid: an image has a point at some places, and a grid overwritten with it has these.
use Rattle.std.specs.Prelude.{◌≡◌, ℕ, ◌*◌, ◌/◌, ◌%◌, Bool, true, false, Option, Some, None}
use Rattle.std.specs.Prelude.{map, replicate, unwrap_or, slice_index_or}
use Rattle.std.specs.List.{range_with_len}
use Rattle.slot_grid.specs.declared.places.Point.{Point}
use Rattle.slot_grid.specs.declared.places.Point.TheVariants.{Empty, P00, P01, P10, P11}
use Rattle.slot_grid.specs.Grid.{GridValue, point_at}

-- the point that is written at a symbol and a subcarrier, where one is
abbrev pub Image : Type 0
Image = ℕ → ℕ → Option Point

-- the grid of these numbers with no point at any place
abbrev pub blank_grid : ℕ → ℕ → ℕ → ℕ → GridValue
blank_grid mu frame slot blocks = record {
  mu = mu;
  frame = frame;
  slot = slot;
  blocks = blocks;
  points = replicate (14 * (12 * blocks)) Empty;
}

-- the grid with the image's point at each of its places, and its own point at every other
unfoldable pub overwritten : Image → GridValue → GridValue
overwritten image grid = record {
  mu = grid.mu;
  frame = grid.frame;
  slot = grid.slot;
  blocks = grid.blocks;
  points =
      map (λ i. unwrap_or (image (i / (12 * grid.blocks)) (i % (12 * grid.blocks))) (slice_index_or grid.points i Empty))
      (range_with_len 0 (14 * (12 * grid.blocks)));
}

-- the grid has the image's point at each of its places
abbrev pub Agrees : GridValue → Image → Type 0
Agrees grid image = (s c : ℕ) (p : Point) → image s c ≡ Some p → point_at grid s c ≡ p

-- whether two points are one
abbrev pub is_point : Point → Point → Bool
is_point Empty Empty = true
is_point P00 P00 = true
is_point P01 P01 = true
is_point P10 P10 = true
is_point P11 P11 = true
is_point _ _ = false

-- whether a point is the one that an image has at its place, where it has one there
abbrev pub is_as_wanted : Option Point → Point → Bool
is_as_wanted None point = true
is_as_wanted (Some wanted) point = is_point wanted point

-- whether the grid has at a place the image's point, where the image has one there: with this at every place it agrees
abbrev pub agrees_at : GridValue → Image → ℕ → ℕ → Bool
agrees_at grid image s c = is_as_wanted (image s c) (point_at grid s c)
