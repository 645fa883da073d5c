use Rattle.pdcch_app.proofs.Heard.{hears_what_is_written}
use Rattle.pdcch_app.proofs.laws.hears_what_is_written.Goals as goal

pub returns : goal.returns
returns c = hears_what_is_written
