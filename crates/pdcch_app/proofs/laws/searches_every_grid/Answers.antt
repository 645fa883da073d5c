use Rattle.pdcch_app.proofs.RunPromises.{searches_every_grid}
use Rattle.pdcch_app.proofs.laws.searches_every_grid.Goals as goal

pub returns : goal.returns
returns c = searches_every_grid
