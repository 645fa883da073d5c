use Rattle.std.proofs.Common.{◌≡◌, ◌*◌, ◌≤◌, take}
use Rattle.std.specs.List.{sum_by}
use Rattle.par_sweep.specs.Sweep.{found_in}
use Rattle.par_sweep.proofs.sweep.heard_by.Given as goal

-- what the jobs so far found
abbrev pub invariant-loop-job : goal.invariant-loop-job
invariant-loop-job l = (l.heard ≡ sum_by found_in (take l.job-index l.jobs)) × (l.heard ≤ l.job-index * 11200)
