use Rattle.dmrs_qpsk.specs.Placed.{AreRegsPut}
use Rattle.dmrs_qpsk.proofs.placing.put_bits_core.Given as goal

abbrev pub invariant-loop-j : goal.invariant-loop-j
invariant-loop-j l = AreRegsPut l.first l.id l.regs l.bits l.j l.initial.grid l.grid
