use Rattle.std.proofs.Common.{◌≡◌, map}
use Rattle.std.specs.List.{range_with_len}
use Rattle.par_sweep.specs.Sweep.{job_at}
use Rattle.par_sweep.proofs.sweep.jobs_of.Given as goal

-- the jobs so far
abbrev pub invariant-loop-number : goal.invariant-loop-number
invariant-loop-number l = l.jobs.items ≡ map job_at (range_with_len 0 l.number)
