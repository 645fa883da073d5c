use Rattle.par_sweep.proofs.Searches.{AreSweptWith}
use Rattle.par_sweep.proofs.sweep.sweep_of.Given as goal

-- the slots so far
abbrev pub invariant-loop-t : goal.invariant-loop-t
invariant-loop-t g l = AreSweptWith l.codes l.tables l.t l.grids.items l.counts.items
