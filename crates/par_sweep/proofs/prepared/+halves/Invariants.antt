use Rattle.std.proofs.Common.{length}
use Rattle.par_sweep.proofs.prepared.+halves.Given as goal

abbrev pub decreases-search_front : goal.decreases-search_front
decreases-search_front g l = length l.front.now

abbrev pub decreases-search_back : goal.decreases-search_back
decreases-search_back g l = length l.back.now

abbrev pub decreases-search_halves : goal.decreases-search_halves
decreases-search_halves g l = length l.jobs.now
