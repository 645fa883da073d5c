-- What is seen of a shelf that never fails.
use Rattle.std.specs.Prelude.{ℕ, List, [], Option, Some}
use Rattle.std.specs.Option.{unwrap_or}
use Rattle.outside.specs.Memory.{Object, bytes_of}
use Rattle.outside.specs.Missed.{Missed}

-- the bytes of the first object with this name, and none for a name that no object has
abbrev pub held_of : List Object → List ℕ → List ℕ
held_of objects name = unwrap_or (bytes_of objects name) []

-- it tells them for every name
abbrev pub told_by : List Object → List ℕ → Option (List ℕ)
told_by objects name = Some (held_of objects name)

-- its objects, how many fetches found an object too long, and their names
pub record Held : Type 0 where
  pub objects : List Object
  pub longs : ℕ
  pub missed : List Missed
