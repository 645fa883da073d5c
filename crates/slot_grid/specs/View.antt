-- What contracts see of a grid.
use Rattle.std.specs.Prelude.{◌≡◌, ◌*◌, length}
use Rattle.slot_grid.specs.declared.places.Grid.TheInside.{Inside}
use Rattle.slot_grid.specs.Block.{points_in}
use Rattle.slot_grid.specs.Grid.{GridValue, IsGrid}

-- the numbers and the points
abbrev pub grid_of : Inside → GridValue
grid_of g = record { mu = g.mu; frame = g.frame; slot = g.slot; blocks = g.blocks; points = points_in g.words.items g.blocks }

-- the numbers are in range, and there is a word for each symbol and block
pub record IsStored (g : Inside) : Type 0 where
  pub grid : IsGrid (grid_of g)
  pub words : length g.words.items ≡ 14 * g.blocks
