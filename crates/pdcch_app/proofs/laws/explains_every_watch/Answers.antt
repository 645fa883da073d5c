use Rattle.pdcch_app.proofs.ExplainedWatches.{explains_every_watch}
use Rattle.pdcch_app.proofs.laws.explains_every_watch.Goals as goal

pub returns : goal.returns
returns c = explains_every_watch
