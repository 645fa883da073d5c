use Rattle.cell_placer.proofs.Earliest.{names_the_earliest}
use Rattle.cell_placer.proofs.laws.names_the_earliest.Goals as goal

pub returns : goal.returns
returns c = names_the_earliest
