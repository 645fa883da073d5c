-- What a call leaves that appends to a text.
use Rattle.std.specs.Prelude.{◌≡◌, ◌≤◌, ℕ, List, ◌++◌, length, take, Result, OnOk, OnErr}

-- the new text is the old one, followed by the first bytes of a piece
pub record IsBegun (old new piece : List ℕ) : Type 0 where
  pub count : ℕ
  pub within : count ≤ length piece
  pub text : new ≡ old ++ take count piece

-- a call appends a piece: all of it, or, where memory runs out, a prefix of it
pub record Appends {E : Type 0} (old new piece : List ℕ) (result : Result (Unit {0}) E) : Type 0 where
  pub whole : OnOk result (new ≡ old ++ piece)
  pub prefix : OnErr result (IsBegun old new piece)
