use Rattle.std.proofs.Common.{arith}
use Rattle.dmrs_qpsk.proofs.RowBits.{bits_within, bits_across}
use Rattle.dmrs_qpsk.proofs.packing.bits_at.Goals as goal

pub returns-then-low-le46-clause-bits : goal.returns-then-low-le46-clause-bits
returns-then-low-le46-clause-bits c =
    bits_within c.args.bits.now c.args.at c.word.result c.if-low-le46.true c.word.ensures

pub returns-else-low-le46-clause-bits : goal.returns-else-low-le46-clause-bits
returns-else-low-le46-clause-bits c =
    bits_across c.args.bits.now c.args.at c.word.result c.word-else-low-le46.result (omega (arith, c.if-low-le46.false))
    (omega arith) c.word.ensures c.word-else-low-le46.ensures
