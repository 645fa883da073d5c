use Rattle.slot_grid.proofs.Slots.{slot_small}
use Rattle.slot_grid.proofs.places.Grid.slot.Goals as goal

pub returns-clause-few : goal.returns-clause-few
returns-clause-few c = slot_small c.self.inside.mu c.self.inside.slot c.self.invariant.grid.mu_most c.self.invariant.grid.slot_below
