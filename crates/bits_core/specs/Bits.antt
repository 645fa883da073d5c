-- Bits, their sums modulo 2, and numbers written in bits.
use Rattle.std.specs.Prelude.{ℕ, zero, suc, ◌+◌, ◌-◌, ◌^◌, Bool, true, false, not, cond, List, [], ◌∷◌, length, map, get_or}
use Rattle.std.specs.List.{range_with_len}
use Rattle.bits_core.specs.Ones.{has_one}

-- the sum of two bits modulo 2
abbrev pub plus : Bool → Bool → Bool
plus true b = not b
plus false b = b

-- the sum modulo 2 of f i over every i below n
unfoldable pub sum_below : ℕ → (ℕ → Bool) → Bool
sum_below zero f = false
sum_below (suc n) f = plus (sum_below n f) (f n)

-- the bit at a place of a list, false past its end
abbrev pub bit_of : List Bool → ℕ → Bool
bit_of bits i = get_or bits i false

-- a number in `width` bits, most significant bit first
abbrev pub bits_of : ℕ → ℕ → List Bool
bits_of width value = map (λ i. has_one value (width - 1 - i)) (range_with_len 0 width)

-- the number that bits spell, most significant bit first
abbrev pub number_of : List Bool → ℕ
number_of [] = 0
number_of (b ∷ bs) = cond b (2 ^ length bs) 0 + number_of bs
