use Rattle.par_sweep.proofs.Sums.{AreSums}
use Rattle.par_sweep.proofs.summary.sums_of.Given as goal

abbrev pub invariant-loop-slot : goal.invariant-loop-slot
invariant-loop-slot l = AreSums l.totals l.slot-index l.sums
