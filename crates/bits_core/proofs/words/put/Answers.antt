use Rattle.bits_core.proofs.PackedBits.{bit_set, bit_cleared}
use Rattle.bits_core.proofs.words.put.Goals as goal

pub returns-then-bit : goal.returns-then-bit
returns-then-bit c = bit_set c.args.words.now c.args.at c.args.bit c.requires c.if-bit.true

pub returns-else-bit : goal.returns-else-bit
returns-else-bit c = bit_cleared c.args.words.now c.args.at c.args.bit c.requires c.if-bit.false
