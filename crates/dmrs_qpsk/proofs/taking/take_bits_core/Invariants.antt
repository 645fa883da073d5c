use Rattle.std.proofs.Common.{◌*◌}
use Rattle.bits_core.specs.Row.{row_bits}
use Rattle.dmrs_qpsk.specs.Taken.{ArePointsTaken}
use Rattle.dmrs_qpsk.proofs.taking.take_bits_core.Given as goal

abbrev pub invariant-loop-j : goal.invariant-loop-j
invariant-loop-j l = ArePointsTaken l.grid l.first l.id l.regs (row_bits l.words (18 * l.j)) (12 * l.j)
