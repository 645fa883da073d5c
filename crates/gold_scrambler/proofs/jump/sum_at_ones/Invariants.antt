use Rattle.std.proofs.Common.{◌≡◌, ◌%◌, ◌^◌}
use Rattle.gold_scrambler.specs.Gold.{state2}
use Rattle.gold_scrambler.proofs.jump.sum_at_ones.Given as goal

-- the bits below this one are summed
abbrev pub invariant-loop-bit : goal.invariant-loop-bit
invariant-loop-bit l = l.sum ≡ state2 (l.c_init % 2 ^ l.bit) 1600
