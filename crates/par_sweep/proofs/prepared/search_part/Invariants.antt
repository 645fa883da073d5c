use Rattle.par_sweep.proofs.Entries.{EntriesSearchedBelow}
use Rattle.par_sweep.proofs.prepared.search_part.Given as goal

abbrev pub invariant-loop-place : goal.invariant-loop-place
invariant-loop-place g l = EntriesSearchedBelow l.tables l.grids l.fn.jobs l.place l.jobs l.codes
