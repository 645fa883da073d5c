use Rattle.std.proofs.Common.{refl}
use Rattle.gold_scrambler.specs.Gold.{state2}
use Rattle.gold_scrambler.proofs.jump.second_after_offset.Goals as goal

pub sum_at_ones-requires-clause-singles : goal.sum_at_ones-requires-clause-singles
unfolding state2
sum_at_ones-requires-clause-singles c = refl
