use Rattle.polar_kernel.proofs.StagesInWords.{stage_bit}
use Rattle.polar_kernel.proofs.packed.stage.Goals as goal

pub returns : goal.returns
returns c k l = stage_bit c.args.word c.args.span c.args.mask k c.requires.mask l
