-- Of the code, not of the header: how far a grid is filled with the points of bytes.
use Rattle.std.specs.Prelude.{ℕ, List, ◌++◌, drop, map, replicate, take}
use Rattle.slot_grid.specs.declared.places.Point.TheVariants.{Empty}
use Rattle.slot_grid.specs.Grid.{GridValue}
use Rattle.nrpdcch_c.specs.Points.{grid_by, places_of, point_of}

-- a grid of the numbers of another with the points of the first n bytes, and none behind them
abbrev pub filled_to : ℕ → List ℕ → GridValue → GridValue
filled_to n bytes grid =
    grid_by grid.mu grid.frame grid.slot grid.blocks
    (map point_of (take n bytes) ++ drop n (replicate (places_of grid.blocks) Empty))
