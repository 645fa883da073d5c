use Rattle.std.proofs.Common.{◌-◌}
use Rattle.monitor_budget.specs.Counts.{cces_from}
use Rattle.monitor_budget.specs.Tally.{AddsCces}
use Rattle.monitor_budget.proofs.marks.Marks.set_all.Given as goal

abbrev pub invariant-loop-cce : goal.invariant-loop-cce
invariant-loop-cce l = AddsCces l.initial.self l.self (cces_from l.coreset l.symbol l.start (l.cce - l.start))
