use Rattle.gold_scrambler.proofs.Recurrences.{first_begins}
use Rattle.gold_scrambler.proofs.laws.first_begins.Goals as goal

pub returns : goal.returns
returns c = first_begins
