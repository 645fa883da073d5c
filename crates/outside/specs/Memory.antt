-- What is seen of a shelf and of a sink in memory.
use Rattle.std.specs.Prelude.{◌≡◌, ◌⊎◌, ◌<◌, ◌≤◌, ◌-◌, ℕ, min, List, length, Option, None, IfSome, nat_eq}
use Rattle.std.specs.Option.{option_map}
use Rattle.std.specs.List.{Contains, find}
use Rattle.std.specs.Cmp.Lexicographic.{pointwise}
use Rattle.outside.specs.Counts.{Counts}
use Rattle.outside.specs.Missed.{Missed}

-- an object: its name and its bytes
pub record Object : Type 0 where
  pub name : List ℕ
  pub bytes : List ℕ

-- the bytes of the first object with this name
abbrev pub bytes_of : List Object → List ℕ → Option (List ℕ)
bytes_of objects name = option_map (λ object. object.bytes) (find (λ object. pointwise nat_eq object.name name) objects)

-- a shelf in memory: its objects, the numbers of the calls that fail, the number of the next call, its counts, and the
-- names of the fetches that gave nothing
pub record Shelved : Type 0 where
  pub objects : List Object
  pub failing : List ℕ
  pub calls : ℕ
  pub faults : ℕ
  pub longs : ℕ
  pub missed : List Missed

-- what it counts
abbrev pub counts_of : Shelved → Counts
counts_of shelf = record { faults = shelf.faults; longs = shelf.longs; missed = shelf.missed }

-- the next fetch of this name fails: its number is listed, or no object has the name
abbrev pub FetchFails : Shelved → List ℕ → Type 0
FetchFails shelf name = Contains shelf.failing shelf.calls ⊎ (bytes_of shelf.objects name ≡ None)

-- the next fetch of this name finds more bytes than the limit
abbrev pub FindsTooMuch : Shelved → List ℕ → ℕ → Type 0
FindsTooMuch shelf name limit = (FetchFails shelf name → ⊥) × IfSome (bytes_of shelf.objects name) (λ bytes. limit < length bytes)

-- a sink in memory: what it took, how many bytes it has room for, how many it takes at once,
-- the numbers of the calls that fail, the number of the next call, and the count of faults
pub record Filled : Type 0 where
  pub bytes : List ℕ
  pub room : ℕ
  pub width : ℕ
  pub failing : List ℕ
  pub calls : ℕ
  pub faults : ℕ

-- the next put of a piece that isn't empty fails: its number is listed, or no room is left
abbrev pub PutFails : Filled → Type 0
PutFails sink = Contains sink.failing sink.calls ⊎ (sink.room ≤ length sink.bytes)

-- how many bytes the next put takes where it doesn't fail: the least of the width, the room left and the piece's length
abbrev pub share_of : Filled → List ℕ → ℕ
share_of sink piece = min sink.width (min (sink.room - length sink.bytes) (length piece))
