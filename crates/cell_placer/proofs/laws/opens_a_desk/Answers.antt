use Rattle.cell_placer.proofs.OpenedDesks.{opens_a_desk}
use Rattle.cell_placer.proofs.laws.opens_a_desk.Goals as goal

pub returns : goal.returns
returns c = opens_a_desk
