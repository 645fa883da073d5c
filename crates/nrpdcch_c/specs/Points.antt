-- A caller's grid: a byte for each place, symbol by symbol and in a symbol by rising subcarrier.
use Rattle.std.specs.Prelude.{◌≡◌, ◌≤◌, ℕ, ◌*◌, ◌==◌, Bool, cond, nat_eq, nat_lt, List, length, map, position, Option, None}
use Rattle.std.specs.Prelude.{Some, Result, Ok, Err}
use Rattle.slot_grid.specs.declared.places.Point.{Point}
use Rattle.slot_grid.specs.declared.places.Point.TheVariants.{Empty, P00, P01, P10, P11}
use Rattle.slot_grid.specs.Grid.{GridValue}
use Rattle.nrpdcch_c.specs.declared.stop.Stop.{Stop}
use Rattle.nrpdcch_c.specs.declared.stop.Stop.TheVariants as stops

-- the byte of a point
abbrev pub byte_of : Point → ℕ
byte_of Empty = 0
byte_of P00 = 1
byte_of P01 = 2
byte_of P10 = 3
byte_of P11 = 4

-- the point of a byte
abbrev pub point_of : ℕ → Point
point_of byte = cond (byte == 1) P00 (cond (byte == 2) P01 (cond (byte == 3) P10 (cond (byte == 4) P11 Empty)))

-- each point is that of its byte, and each byte up to 4 is that of its point
pub record BytesNamePoints : Type 0 where
  pub point : (p : Point) → point_of (byte_of p) ≡ p
  pub byte : (b : ℕ) → b ≤ 4 → byte_of (point_of b) ≡ b

-- a byte is that of no point
abbrev pub is_no_point : ℕ → Bool
is_no_point byte = nat_lt 4 byte

-- how many places a grid of so many blocks has
abbrev pub places_of : ℕ → ℕ
places_of blocks = 14 * (12 * blocks)

-- the grid of these numbers with these points
abbrev pub grid_by : ℕ → ℕ → ℕ → ℕ → List Point → GridValue
grid_by mu frame slot blocks points = record { mu = mu; frame = frame; slot = slot; blocks = blocks; points = points }

-- a grid, or the place of a byte that is no point
abbrev pub grid_or_place : GridValue → Option ℕ → Result GridValue Stop
grid_or_place grid None = Ok grid
grid_or_place grid (Some at) = Err (stops.GridByte at)

-- the grid of these numbers that bytes are, or the first cause against them: their length, and then the first that is no point
unfoldable pub grid_in : ℕ → ℕ → ℕ → ℕ → List ℕ → Result GridValue Stop
grid_in mu frame slot blocks bytes =
    cond (nat_eq (length bytes) (places_of blocks))
    (grid_or_place (grid_by mu frame slot blocks (map point_of bytes)) (position is_no_point bytes))
    (Err stops.GridLength)
