use Rattle.std.proofs.Common.{◌≡◌, map}
use Rattle.std.specs.List.{range_with_len}
use Rattle.par_sweep.specs.Sweep.{slot_totals}
use Rattle.par_sweep.proofs.sweep.totals_of.Given as goal

-- the totals of the slots so far
abbrev pub invariant-loop-t : goal.invariant-loop-t
invariant-loop-t l = l.totals.items ≡ map (slot_totals l.tables) (range_with_len 0 l.t)
