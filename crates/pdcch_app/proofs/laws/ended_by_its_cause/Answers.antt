use Rattle.pdcch_app.proofs.Endings.{ended_by_its_cause}
use Rattle.pdcch_app.proofs.laws.ended_by_its_cause.Goals as goal

pub returns : goal.returns
returns c = ended_by_its_cause
