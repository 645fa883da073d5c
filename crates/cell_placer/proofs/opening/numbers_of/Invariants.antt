use Rattle.std.proofs.Common.{◌≡◌, map, take}
use Rattle.rrc_settings.specs.declared.settings.SearchSet.{SearchSet}
use Rattle.cell_placer.proofs.opening.numbers_of.Given as goal

abbrev pub invariant-loop-set : goal.invariant-loop-set
invariant-loop-set l = l.numbers.items ≡ map (λ (s : SearchSet). s.number) (take l.set-index l.sets)
