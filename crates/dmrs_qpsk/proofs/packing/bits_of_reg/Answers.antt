use Rattle.std.proofs.Common.{◌+◌, ◌*◌, ◌/◌, ◌%◌, arith}
use Rattle.dmrs_qpsk.proofs.RegBits.{reg_read}
use Rattle.dmrs_qpsk.proofs.packing.bits_of_reg.Goals as goal

pub returns : goal.returns
returns c =
    let a = c.args in
    reg_read a.word a.references (omega (arith, c.if-word-ne4095.false)) (omega (arith, c.if-word-references.false))
    (omega (arith, c.if-word-references-2.false)) (omega (arith, c.if-word-references-3.false))
    (a.word % 4 + 4 * (a.word / 16 % 64) + 256 * (a.word / 4096 % 64 + 64 * (a.word / 1048576 % 16)))
    (omega arith)
