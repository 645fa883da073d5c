use Rattle.dci_codec.proofs.Hearings.{tests_what_is_spelled}
use Rattle.dci_codec.proofs.laws.tests_what_is_spelled.Goals as goal

pub returns : goal.returns
returns c = tests_what_is_spelled
