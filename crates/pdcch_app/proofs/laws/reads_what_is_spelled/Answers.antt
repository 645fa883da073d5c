use Rattle.pdcch_app.proofs.Spellings.{reads_spelled}
use Rattle.pdcch_app.proofs.laws.reads_what_is_spelled.Goals as goal

pub returns : goal.returns
returns c = reads_spelled
