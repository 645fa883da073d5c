use Rattle.std.proofs.Common.{sym}
use Rattle.std.proofs.lemmas.Iterator.Adapters.{position_from-zero}
use Rattle.cell_placer.specs.Suitable.{is_suitable}
use Rattle.cell_placer.proofs.suitable.first_suitable.Goals as goal

pub loop-at-init : goal.loop-at-init
loop-at-init c = sym (position_from-zero (is_suitable c.args.grant.now) c.args.plan.now)
