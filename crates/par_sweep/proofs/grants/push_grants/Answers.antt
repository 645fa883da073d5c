use Rattle.par_sweep.specs.LoadGrants.{load_grant}
use Rattle.par_sweep.proofs.Ranges.{made_behind}
use Rattle.par_sweep.proofs.grants.push_grants.Goals as goal

pub loop-handset-preserved : goal.loop-handset-preserved
loop-handset-preserved c =
    let l = c.loop-handset in
    made_behind (load_grant c.args.t c.args.format) l.handset c.args.grants.now.items l.invariant
    c.in_ok-push.ensures.items c.in_ok-grant.ensures
