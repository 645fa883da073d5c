use Rattle.gold_scrambler.proofs.Recurrences.{second_begins}
use Rattle.gold_scrambler.proofs.laws.second_begins.Goals as goal

pub returns : goal.returns
returns c = second_begins
