use Rattle.std.proofs.Common.{◌≡◌, ◌++◌, drop, map, take}
use Rattle.nrpdcch_c.specs.WatchNumbers.{watch_of}
use Rattle.nrpdcch_c.proofs.planning.put_plan.Given as goal

-- the watches so far are written, and behind them is what was there
abbrev pub invariant-loop-at : goal.invariant-loop-at
invariant-loop-at l = l.watches ≡ map watch_of (take l.at l.plan) ++ drop l.at l.initial.watches
