-- Of the code, not of the standard: where the two registers stand that it keeps.
use Rattle.std.specs.Prelude.{◌≡◌, ℕ, ◌+◌, ◌^◌, ◌<◌, ◌≤◌}
use Rattle.gold_scrambler.specs.Gold.{state1, state2}

-- both registers after n steps, each of 31 bits
pub record AreStates (c n first second : ℕ) : Type 0 where
  pub first_is : first ≡ state1 n
  pub second_is : second ≡ state2 c n
  pub first_small : first < 2 ^ 31
  pub second_small : second < 2 ^ 31

-- the registers stand before bit `place` of the sequence with the start value c
pub record IsStanding (c place first second : ℕ) : Type 0 where
  pub states : AreStates c (place + 1600) first second
  pub start : c < 2 ^ 31
  pub within : place ≤ 2 ^ 30
