use Rattle.std.proofs.Common.{All}
use Rattle.par_sweep.specs.Jobs.{CanSearch}
use Rattle.signal_tests.proofs.of_par_sweep.jobs.Given as goal

-- the jobs so far
abbrev pub invariant-loop-handset : goal.invariant-loop-handset
invariant-loop-handset g l = All (CanSearch l.grids) l.jobs.items
