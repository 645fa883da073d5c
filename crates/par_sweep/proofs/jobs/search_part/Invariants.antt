use Rattle.par_sweep.proofs.Searches.{AreSearchedBelow}
use Rattle.par_sweep.proofs.jobs.search_part.Given as goal

abbrev pub invariant-loop-place : goal.invariant-loop-place
invariant-loop-place g l = AreSearchedBelow l.tables l.grids l.fn.jobs l.place l.jobs l.codes
