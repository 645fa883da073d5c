use Rattle.dci_codec.proofs.OneAnswer.{tells_the_answer}
use Rattle.dci_codec.proofs.laws.tells_the_answer.Goals as goal

pub returns : goal.returns
returns c = tells_the_answer
