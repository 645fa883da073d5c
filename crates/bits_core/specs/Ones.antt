-- Numbers by their binary ones.
use Rattle.std.specs.Prelude.{ℕ, Bool, eqb, ◌==◌, bit_and}
use Rattle.std.specs.Int.{bit_at}

-- bit i of n is one, bit 0 being the lowest
abbrev pub has_one : ℕ → ℕ → Bool
has_one n i = eqb (bit_at n i) 1

-- the binary ones of i contain those of j
unfoldable pub contains_ones : ℕ → ℕ → Bool
contains_ones i j = bit_and i j == j
