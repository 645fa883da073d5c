use Rattle.dci_codec.proofs.Spellings.{hears_what_was_spelled}
use Rattle.dci_codec.proofs.laws.hears_what_was_spelled.Goals as goal

pub returns : goal.returns
returns c = hears_what_was_spelled
