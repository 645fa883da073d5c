use Rattle.dmrs_qpsk.specs.Taken.{ArePointsTaken}
use Rattle.dmrs_qpsk.proofs.one_by_one.take_rest.Given as goal

abbrev pub invariant-loop-place : goal.invariant-loop-place
invariant-loop-place l = ArePointsTaken l.grid l.first l.id l.regs l.bits l.place
