use Rattle.std.proofs.Common.{All}
use Rattle.monitor_plan.specs.Watch.{IsInside}
use Rattle.signal_tests.proofs.of_par_sweep.entries.Given as goal

-- the plans so far
abbrev pub invariant-loop : goal.invariant-loop
invariant-loop g l = All (λ plan. All (IsInside 51) plan) l.plans.items
