-- The length of the mother code: how many bits the word has that a block of k bits is coded to, before e bits of it
-- are sent (3GPP TS 38.212, 5.3.1).
use Rattle.std.specs.Prelude.{ℕ, zero, suc, ◌+◌, ◌-◌, ◌*◌, ◌^◌, ◌&&◌, nat_lt, nat_le, if◌then◌else◌, min, max}

-- how many of the first `count` powers of two are below x
unfoldable pub powers_below : ℕ → ℕ → ℕ
powers_below zero x = 0
powers_below (suc count) x = powers_below count x + (if nat_lt (2 ^ count) x then 1 else 0)

-- the least b with x ≤ 2 ^ b: as many powers of two are below x; the first x of them are enough to count, since 2 ^ x and
-- all later ones are above x
abbrev pub least_power : ℕ → ℕ
least_power x = powers_below x x

-- the exponent that e bits ask for, where b is the least with e ≤ 2 ^ b: one less than b where that repeats at most an
-- eighth of the word and the rate is below 9 / 16, else b
abbrev pub exponent_of : ℕ → ℕ → ℕ → ℕ
exponent_of k e b = if nat_le (16 * e) (9 * 2 ^ b) && nat_lt (16 * k) (9 * e) then b - 1 else b

-- the length: a power of two from 32 to 512, which suits e, and is at most the least power of two that holds 8 k
unfoldable pub length_of : ℕ → ℕ → ℕ
length_of k e = 2 ^ max (min (min (exponent_of k e (least_power e)) (least_power (8 * k))) 9) 5
