use Rattle.pdcch_app.proofs.RunPromises.{writes_every_list}
use Rattle.pdcch_app.proofs.laws.writes_every_list.Goals as goal

pub returns : goal.returns
returns c = writes_every_list
