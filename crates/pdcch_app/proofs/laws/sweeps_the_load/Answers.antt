use Rattle.pdcch_app.proofs.SweptTables.{sweeps_the_load}
use Rattle.pdcch_app.proofs.laws.sweeps_the_load.Goals as goal

pub returns : goal.returns
returns c = sweeps_the_load
