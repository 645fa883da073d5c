-- Tests of numbers.
use Rattle.std.specs.Prelude.{ℕ, Bool, List, ◌&&◌, nat_le, nat_eq}
use Rattle.std.specs.List.{list_any}

-- a number from low to high
abbrev pub is_from_to : ℕ → ℕ → ℕ → Bool
is_from_to low high n = nat_le low n && nat_le n high

-- one of the numbers of a list
abbrev pub is_one_of : List ℕ → ℕ → Bool
is_one_of ns n = list_any (nat_eq n) ns
