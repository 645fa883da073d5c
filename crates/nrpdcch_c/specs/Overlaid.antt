-- A list written over the beginning of another.
use Rattle.std.specs.Prelude.{List, ◌++◌, drop, length}

-- the entries of a list, and behind them those that the other one has there
abbrev pub overlaid : {A : Type 0} → List A → List A → List A
overlaid entries old = entries ++ drop (length entries) old
