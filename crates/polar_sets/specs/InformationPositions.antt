-- The positions of the word that carry the bits of the block: the most reliable of the free ones
-- (3GPP TS 38.212, 5.3.1.2).
use Rattle.std.specs.Prelude.{ℕ, ◌-◌, Bool, ◌==◌, List, length, drop}
use Rattle.std.specs.List.{filter, list_any}
use Rattle.polar_sets.specs.FrozenPlaces.{is_free}

-- p is one of the numbers of a list
abbrev pub is_in : List ℕ → ℕ → Bool
is_in xs p = list_any (λ x. x == p) xs

-- the last k numbers of a list
abbrev pub last_of : ℕ → List ℕ → List ℕ
last_of k xs = drop (length xs - k) xs

-- the free positions of a word of n bits, in the order of the table: from the least to the most reliable
unfoldable pub free_positions : List ℕ → ℕ → ℕ → ℕ → List ℕ
free_positions table n k e = filter (is_free n k e) table

-- the k positions that stand last among them
unfoldable pub information : List ℕ → ℕ → ℕ → ℕ → List ℕ
information table n k e = last_of k (free_positions table n k e)
