use Rattle.dci_codec.proofs.Hearings.{finds_what_is_spelled}
use Rattle.dci_codec.proofs.laws.finds_what_is_spelled.Goals as goal

pub returns : goal.returns
returns c = finds_what_is_spelled
