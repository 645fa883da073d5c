use Rattle.par_sweep.proofs.Plans.{plans_every_slot}
use Rattle.par_sweep.proofs.laws.plans_every_slot.Goals as goal

pub returns : goal.returns
returns c = plans_every_slot
