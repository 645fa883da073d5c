-- What a shelf counts of its fetches.
use Rattle.std.specs.Prelude.{ℕ, List}
use Rattle.outside.specs.Missed.{Missed}

-- how many fetches failed, how many found an object too long, and the names of both, in order
pub record Counts : Type 0 where
  pub faults : ℕ
  pub longs : ℕ
  pub missed : List Missed
