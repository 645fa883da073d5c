use Rattle.std.proofs.Common.{refl}
use Rattle.gold_scrambler.specs.Gold.{state1}
use Rattle.gold_scrambler.proofs.jump.first_after_offset.Goals as goal

pub returns-clause-register : goal.returns-clause-register
unfolding state1
returns-clause-register c = refl
