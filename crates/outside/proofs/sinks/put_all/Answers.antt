use Rattle.std.proofs.Common.{rules}
use Rattle.outside.proofs.sinks.put_all.Goals as goal
use Rattle.outside.proofs.Putting.{put_more}

pub loop-at-preserved : goal.loop-at-preserved
loop-at-preserved g c =
    put_more _ _ _ _ _ _ _ _ _ c.loop-at.invariant (search rules) (search rules) (search rules)
