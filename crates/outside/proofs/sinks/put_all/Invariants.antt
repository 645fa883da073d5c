use Rattle.std.proofs.Common.{length, ◌-◌}
use Rattle.outside.proofs.sinks.put_all.Given as goal
use Rattle.outside.proofs.Putting.{IsPutSoFar}

-- the bytes before `at` were taken, and no `put` failed
abbrev pub invariant-loop-at : goal.invariant-loop-at
invariant-loop-at g l =
    IsPutSoFar (g.K.Sink.shows l.initial.sink).taken (g.K.Sink.shows l.sink).taken (g.K.Sink.shows l.initial.sink).faults
    (g.K.Sink.shows l.sink).faults l.piece l.at

abbrev pub decreases-loop-at : goal.decreases-loop-at
decreases-loop-at g l = length l.piece - l.at
