use Rattle.par_sweep.specs.LoadCell.{load_handset}
use Rattle.par_sweep.proofs.Ranges.{made_more}
use Rattle.par_sweep.proofs.load.handsets.Goals as goal

pub loop-number-preserved : goal.loop-number-preserved
loop-number-preserved c =
    let l = c.loop-number in
    made_more load_handset l.number l.invariant c.in_ok-push.ensures.items c.in_ok-handset.ensures
