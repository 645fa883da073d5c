-- The fetches that gave nothing, by name.
use Rattle.std.specs.Prelude.{ℕ, List}

-- the name of a fetch that failed, or of one that found an object too long
pub data Missed : Type 0 where
  FailedName : List ℕ → Missed
  LongName : List ℕ → Missed
