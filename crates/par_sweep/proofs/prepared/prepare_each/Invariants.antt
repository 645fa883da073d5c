use Rattle.std.specs.List.{AllZip}
use Rattle.par_sweep.specs.Prepared.{IsPrepared}
use Rattle.par_sweep.proofs.prepared.prepare_each.Given as goal

-- the entries of the plans so far
abbrev pub invariant-loop-plan : goal.invariant-loop-plan
invariant-loop-plan l = AllZip (IsPrepared l.grid) l.yielded l.entries.items
