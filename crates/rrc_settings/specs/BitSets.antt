-- Sets of small numbers that are kept as the bits of one number.
use Rattle.std.specs.Prelude.{ℕ, Bool, nat_eq}
use Rattle.std.specs.Int.{bit_at}

-- whether bit i of a number is one
abbrev pub has_bit : ℕ → ℕ → Bool
has_bit n i = nat_eq (bit_at n i) 1
