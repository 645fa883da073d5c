use Rattle.gold_scrambler.proofs.Recurrences.{second_recurs}
use Rattle.gold_scrambler.proofs.laws.second_recurs.Goals as goal

pub returns : goal.returns
returns c = second_recurs
