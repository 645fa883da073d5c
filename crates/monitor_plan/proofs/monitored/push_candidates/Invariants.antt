use Rattle.std.proofs.Common.{◌≡◌, ◌++◌, map, take}
use Rattle.monitor_plan.specs.Monitored.{monitored_at}
use Rattle.monitor_plan.proofs.monitored.push_candidates.Given as goal

-- the first candidates
abbrev pub invariant-loop-candidate : goal.invariant-loop-candidate
invariant-loop-candidate l =
    l.candidates.items ≡ l.initial.candidates.items ++ map (monitored_at l.at) (take l.candidate-index l.candidate-items)
