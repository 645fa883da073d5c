-- The first line of a report.
use Rattle.std.specs.Prelude.{ℕ, List, [], ◌∷◌, ◌++◌, codes}
use Rattle.std.specs.Fmt.{decimal}

-- the slot of the grid
unfoldable pub head_text : ℕ → ℕ → List ℕ
head_text frame slot = codes "frame " ++ decimal frame ++ codes " slot " ++ decimal slot ++ 10 ∷ []
