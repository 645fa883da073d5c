use Rattle.std.proofs.Common.{arith}
use Rattle.dmrs_qpsk.proofs.RegBits.{reg_made}
use Rattle.dmrs_qpsk.proofs.packing.word_of_reg.Goals as goal

pub returns : goal.returns
returns c = reg_made c.args.packed c.args.references _ c.requires (omega arith)
