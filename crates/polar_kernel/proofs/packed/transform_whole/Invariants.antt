use Rattle.std.proofs.Common.{◌-◌}
use Rattle.polar_kernel.proofs.StagesOfWords.{IsPartlyPacked}
use Rattle.polar_kernel.proofs.packed.transform_whole.Given as goal

abbrev pub invariant-loop-span : goal.invariant-loop-span
invariant-loop-span l = IsPartlyPacked l.count l.span l.fn.words l.words

abbrev pub decreases-loop-span : goal.decreases-loop-span
decreases-loop-span l = l.count - l.span
