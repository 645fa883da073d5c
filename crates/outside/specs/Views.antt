-- What is seen of a shelf and of a sink, whatever they stand on.
use Rattle.std.specs.Prelude.{ℕ, List, Option}
use Rattle.outside.specs.Missed.{Missed}

-- a shelf: the bytes of each object, where it tells them, how many fetches failed, how many found an object too long,
-- and the names of both, in the order of the calls
pub record ShelfView : Type 0 where
  pub told : List ℕ → Option (List ℕ)
  pub faults : ℕ
  pub longs : ℕ
  pub missed : List Missed

-- a sink: the bytes that it took, where it tells them, and how many puts failed
pub record SinkView : Type 0 where
  pub taken : Option (List ℕ)
  pub faults : ℕ
