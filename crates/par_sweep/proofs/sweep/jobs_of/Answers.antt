use Rattle.par_sweep.specs.Sweep.{job_at}
use Rattle.par_sweep.proofs.Ranges.{made_more}
use Rattle.par_sweep.proofs.sweep.jobs_of.Goals as goal

pub loop-number-preserved : goal.loop-number-preserved
loop-number-preserved c =
    let l = c.loop-number in
    made_more job_at l.number l.invariant c.in_ok-push_value.ensures c.in_ok-job_at.ensures
