use Rattle.std.proofs.Common.{◌-◌, length}
use Rattle.polar_kernel.proofs.StagesOfLists.{IsPartly}
use Rattle.polar_kernel.proofs.transform_core.Given as goal

abbrev pub invariant-loop-span : goal.invariant-loop-span
invariant-loop-span l = IsPartly l.span l.initial.word l.word

abbrev pub decreases-loop-span : goal.decreases-loop-span
decreases-loop-span l = length l.initial.word - l.span
