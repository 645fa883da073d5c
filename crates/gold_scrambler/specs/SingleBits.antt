-- Of the code, not of the standard: the start values of one bit.
use Rattle.std.specs.Prelude.{ℕ, ◌^◌, List, map}
use Rattle.std.specs.List.{range_with_len}
use Rattle.gold_scrambler.specs.Gold.{state2}

-- the second register after 1,600 steps from each start value of one bit, low bit first
abbrev pub of_single_bits : List ℕ
of_single_bits = map (λ i. state2 (2 ^ i) 1600) (range_with_len 0 31)
