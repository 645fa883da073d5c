-- Aggregation levels: how many CCEs a candidate has (3GPP TS 38.211, 7.3.2.1).
use Rattle.std.specs.Prelude.{ℕ, Bool, List, [], ◌∷◌, slice_index}
use Rattle.rrc_settings.specs.Numbers.{is_one_of}

-- the aggregation levels, rising
abbrev pub aggregation_levels : List ℕ
aggregation_levels = 1 ∷ 2 ∷ 4 ∷ 8 ∷ 16 ∷ []

-- level i of the list
abbrev pub level_at : ℕ → ℕ
level_at i = slice_index aggregation_levels i

-- whether a number is an aggregation level
abbrev pub is_level : ℕ → Bool
is_level n = is_one_of aggregation_levels n
