use Rattle.gold_scrambler.proofs.Recurrences.{gold_is_sum}
use Rattle.gold_scrambler.proofs.laws.gold_is_sum.Goals as goal

pub returns : goal.returns
returns c = gold_is_sum
