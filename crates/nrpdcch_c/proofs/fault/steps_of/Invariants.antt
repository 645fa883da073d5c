use Rattle.std.proofs.Common.{◌≡◌, ◌++◌, drop, map, replicate, take}
use Rattle.nrpdcch_c.specs.Faults.{no_step, step_of}
use Rattle.nrpdcch_c.proofs.fault.steps_of.Given as goal

-- the steps so far are written, and the others are none
abbrev pub invariant-loop-index : goal.invariant-loop-index
invariant-loop-index l = l.steps ≡ map step_of (take l.index l.place.steps.items) ++ drop l.index (replicate 6 no_step)
