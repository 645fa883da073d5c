-- What a sink takes of a piece.
use Rattle.std.specs.Prelude.{◌≡◌, ◌≤◌, ℕ, List, ◌++◌, length, take, Option}
use Rattle.std.specs.Option.{option_map}

-- the sink took the whole piece: where it tells, the piece now stands at the end of what it took
abbrev pub Takes : Option (List ℕ) → Option (List ℕ) → List ℕ → Type 0
Takes old new piece = new ≡ option_map (λ bytes. bytes ++ piece) old

-- the sink took the first bytes of the piece
pub record TakesPrefix (old new : Option (List ℕ)) (piece : List ℕ) : Type 0 where
  pub count : ℕ
  pub within : count ≤ length piece
  pub takes : Takes old new (take count piece)
