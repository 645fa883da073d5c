-- The points of a block in one symbol as one word: bits 2k and 2k + 1 are those of the point at subcarrier k of the block, and
-- bit 24 + k is 1 where there is a point.
use Rattle.std.specs.Prelude.{ℕ, ◌+◌, ◌*◌, ◌/◌, ◌%◌, Bool, true, false, cond, List, map, slice_index}
use Rattle.std.specs.List.{range_with_len}
use Rattle.bits_core.specs.Ones.{has_one}
use Rattle.slot_grid.specs.declared.places.Point.{Point}
use Rattle.slot_grid.specs.declared.places.Point.TheVariants.{Empty, P00, P01, P10, P11}

-- the QPSK point of two bits (3GPP TS 38.211, 5.1.3)
abbrev pub point_with : Bool → Bool → Point
point_with false false = P00
point_with false true = P01
point_with true false = P10
point_with true true = P11

-- the point that a word has at subcarrier k of its block, for k below 12
abbrev pub point_in : ℕ → ℕ → Point
point_in word k = cond (has_one word (24 + k)) (point_with (has_one word (2 * k)) (has_one word (2 * k + 1))) Empty

-- the points of the words of all blocks, symbol by symbol
abbrev pub points_in : List ℕ → ℕ → List Point
points_in words blocks = map (λ i. point_in (slice_index words (i / 12)) (i % 12)) (range_with_len 0 (14 * (12 * blocks)))
