use Rattle.std.proofs.Common.{◌≡◌, map}
use Rattle.std.specs.List.{range_with_len}
use Rattle.par_sweep.specs.LoadCell.{load_handset}
use Rattle.par_sweep.proofs.load.handsets.Given as goal

-- the handsets so far
abbrev pub invariant-loop-number : goal.invariant-loop-number
invariant-loop-number l = l.handsets.items ≡ map load_handset (range_with_len 0 l.number)
