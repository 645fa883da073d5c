use Rattle.polar_kernel.proofs.WordBits.{has_one-and}
use Rattle.polar_chain.proofs.others.astray.Goals as goal

pub returns : goal.returns
returns c i = has_one-and c.args.word c.args.tested i
