-- Grids that have the same numbers.
use Rattle.std.proofs.Common.{refl, ◌∙◌}
use Rattle.slot_grid.specs.Grid.{GridValue, SameNumbers}

-- a grid has its own numbers
pub own_numbers : (grid : GridValue) → SameNumbers grid grid
own_numbers grid = record { mu = refl; frame = refl; slot = refl; blocks = refl; size = refl }

-- the numbers of a third grid are those of the first, where each step keeps them
pub numbers_on : {old mid new : GridValue} → SameNumbers old mid → SameNumbers mid new → SameNumbers old new
numbers_on h g = record {
  mu = g.mu ∙ h.mu;
  frame = g.frame ∙ h.frame;
  slot = g.slot ∙ h.slot;
  blocks = g.blocks ∙ h.blocks;
  size = g.size ∙ h.size;
}
