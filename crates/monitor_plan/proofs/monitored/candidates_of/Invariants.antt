use Rattle.monitor_plan.proofs.MonitoredSets.{AreMonitored}
use Rattle.monitor_plan.proofs.monitored.candidates_of.Given as goal

-- the candidates of the first sets
abbrev pub invariant-loop-at : goal.invariant-loop-at
invariant-loop-at l = AreMonitored l.sizes l.sets l.at l.candidates.items
