use Rattle.gold_scrambler.proofs.Recurrences.{first_recurs}
use Rattle.gold_scrambler.proofs.laws.first_recurs.Goals as goal

pub returns : goal.returns
returns c = first_recurs
