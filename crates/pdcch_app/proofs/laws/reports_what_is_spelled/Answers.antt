use Rattle.pdcch_app.proofs.Spelled.{reports_what_is_spelled}
use Rattle.pdcch_app.proofs.laws.reports_what_is_spelled.Goals as goal

pub returns : goal.returns
returns c = reports_what_is_spelled
