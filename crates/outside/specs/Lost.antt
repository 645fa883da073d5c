-- What a call takes from a reader.
use Rattle.std.specs.Prelude.{ℕ, ◌≤◌, List, Option, length}
use Rattle.std.specs.Io.KnownBytes.{Consumes}

-- where the reader tells the bytes that it has left, it lost the first of them, and at most `most`
pub record LosesAtMost (old new : Option (List ℕ)) (most : ℕ) : Type 0 where
  pub lost : List ℕ
  pub first : Consumes old new lost
  pub few : length lost ≤ most
