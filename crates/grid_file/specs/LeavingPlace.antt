-- Where bytes leave a set of texts: the length of the longest beginning that they share with one of the set.
use Rattle.std.specs.Prelude.{ℕ, ◌≤◌, List, ◌++◌, length, take}

-- some text of the set begins with these bytes
abbrev pub Begins : (List ℕ → Type 0) → List ℕ → Type 0
Begins IsText bytes = (rest : List ℕ) × IsText (bytes ++ rest)

-- the bytes are no text of the set, and `place` is the length of their longest beginning with which a text of the set begins
pub record LeavesAt (IsText : List ℕ → Type 0) (bytes : List ℕ) (place : ℕ) : Type 0 where
  pub no_text : IsText bytes → ⊥
  pub within : place ≤ length bytes
  pub begins : Begins IsText (take place bytes)
  pub longest : (n : ℕ) → n ≤ length bytes → Begins IsText (take n bytes) → n ≤ place
