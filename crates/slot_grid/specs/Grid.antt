-- The resource grid of one slot (3GPP TS 38.211, 4.4.2): 14 symbols of 12 subcarriers a block, one QPSK point or none at each
-- place.
use Rattle.std.specs.Prelude.{◌≡◌, ℕ, ◌+◌, ◌*◌, ◌/◌, ◌^◌, ◌<◌, ◌≤◌, nat_lt, cond, List, length, slice_index_or, slice_set}
use Rattle.slot_grid.specs.declared.places.Point.{Point}
use Rattle.slot_grid.specs.declared.places.Point.TheVariants.{Empty}
use Rattle.slot_grid.specs.Block.{point_in}

-- a grid: its numbers, and its points symbol by symbol and in a symbol by rising subcarrier
pub record GridValue : Type 0 where
  pub mu : ℕ
  pub frame : ℕ
  pub slot : ℕ
  pub blocks : ℕ
  pub points : List Point

-- how many slots a frame has, where the subcarriers are 15 * 2 ^ mu kHz apart (3GPP TS 38.211, 4.3.2)
abbrev pub slots_in_frame : ℕ → ℕ
slots_in_frame mu = 10 * 2 ^ mu

-- the numbers of a grid are in range, and it has a point for each place
pub record IsGrid (grid : GridValue) : Type 0 where
  pub mu_most : grid.mu ≤ 3
  pub frame_most : grid.frame ≤ 1023
  pub slot_below : grid.slot < slots_in_frame grid.mu
  pub blocks_least : 6 ≤ grid.blocks
  pub blocks_most : grid.blocks ≤ 275
  pub size : length grid.points ≡ 14 * (12 * grid.blocks)

-- the point at a symbol and a subcarrier: none off the grid
abbrev pub point_at : GridValue → ℕ → ℕ → Point
point_at grid symbol subcarrier =
    cond (nat_lt subcarrier (12 * grid.blocks))
    (slice_index_or grid.points (symbol * (12 * grid.blocks) + subcarrier) Empty)
    Empty

-- the grid with another point at one place
abbrev pub with_point : ℕ → ℕ → Point → GridValue → GridValue
with_point symbol subcarrier point grid = record {
  mu = grid.mu;
  frame = grid.frame;
  slot = grid.slot;
  blocks = grid.blocks;
  points = slice_set grid.points (symbol * (12 * grid.blocks) + subcarrier) point;
}

-- a grid has the four numbers of another, and as many points
pub record SameNumbers (old new : GridValue) : Type 0 where
  pub mu : new.mu ≡ old.mu
  pub frame : new.frame ≡ old.frame
  pub slot : new.slot ≡ old.slot
  pub blocks : new.blocks ≡ old.blocks
  pub size : length new.points ≡ length old.points

-- one place has the point, and each other place has the point that it had
pub record IsPut (symbol subcarrier : ℕ) (point : Point) (old new : GridValue) : Type 0 where
  pub numbers : SameNumbers old new
  pub there : point_at new symbol subcarrier ≡ point
  pub others : (s c : ℕ) → (s ≡ symbol → c ≡ subcarrier → ⊥) → point_at new s c ≡ point_at old s c

-- each place of one block in one symbol has the point that a word has there, and each other place has the point that it had
pub record IsBlockPut (symbol block word : ℕ) (old new : GridValue) : Type 0 where
  pub numbers : SameNumbers old new
  pub there : (k : ℕ) → k < 12 → point_at new symbol (12 * block + k) ≡ point_in word k
  pub others : (s c : ℕ) → (s ≡ symbol → c / 12 ≡ block → ⊥) → point_at new s c ≡ point_at old s c
