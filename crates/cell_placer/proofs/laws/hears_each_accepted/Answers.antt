use Rattle.cell_placer.proofs.Heard.{heard_among}
use Rattle.cell_placer.proofs.laws.hears_each_accepted.Goals as goal

pub returns : goal.returns
returns c = heard_among
