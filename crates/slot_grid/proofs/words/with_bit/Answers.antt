use Rattle.slot_grid.proofs.BlockWords.{bit_set, bit_cleared}
use Rattle.slot_grid.proofs.words.with_bit.Goals as goal

pub returns-then-bit : goal.returns-then-bit
returns-then-bit c = bit_set c.args.word c.args.at c.args.bit c.requires c.if-bit.true

pub returns-else-bit : goal.returns-else-bit
returns-else-bit c = bit_cleared c.args.word c.args.at c.args.bit c.requires c.if-bit.false
