-- The parity bits of a payload and their mask: 3GPP TS 38.212, 5.1 (CRC24C) and 7.3.2.
use Rattle.std.specs.Prelude.{ℕ, zero, suc, ◌+◌, ◌-◌, Bool, true, false, ◌&&◌, eqb, List, [], ◌∷◌, ◌++◌, length, map, replicate}
use Rattle.std.specs.List.{range_with_len, list_any}
use Rattle.bits_core.specs.Bits.{plus, sum_below, bit_of, bits_of}

-- the exponents below 24 of the generator D^24 + D^23 + D^21 + D^20 + D^17 + D^15 + D^13 + D^12 + D^8 + D^4 + D^2 + D + 1
abbrev pub exponents : List ℕ
exponents = 23 ∷ 21 ∷ 20 ∷ 17 ∷ 15 ∷ 13 ∷ 12 ∷ 8 ∷ 4 ∷ 2 ∷ 1 ∷ 0 ∷ []

-- the low 24 bits of the generator, most significant first
unfoldable pub generator : List Bool
generator = map (λ j. list_any (eqb (23 - j)) exponents) (range_with_len 0 24)

-- D times a remainder, reduced again: the bits move one place to the left, and a 1 that falls out adds the generator's other 24
-- bits
unfoldable pub times_d : List Bool → List Bool
times_d r = map (λ j. plus (bit_of r (j + 1)) (bit_of r 0 && bit_of generator j)) (range_with_len 0 24)

-- D^k modulo the generator, as 24 bits, most significant first
unfoldable pub remainder : ℕ → List Bool
remainder zero = bits_of 24 1
remainder (suc k) = times_d (remainder k)

-- what the parity is computed over: 24 ones, then the payload
abbrev pub covered : List Bool → List Bool
covered payload = replicate 24 true ++ payload

-- bit j of the parity: of the sum of D^(A + 47 - i) modulo the generator over the places i of the ones, where the payload
-- has A bits
abbrev pub parity_bit : List Bool → ℕ → Bool
parity_bit payload j =
    sum_below (length payload + 24) (λ i. bit_of (covered payload) i && bit_of (remainder (length payload + 47 - i)) j)

-- the 24 parity bits
unfoldable pub parity : List Bool → List Bool
parity payload = map (parity_bit payload) (range_with_len 0 24)

-- 24 bits of which the last 16 are the identity
abbrev pub mask : ℕ → List Bool
mask rnti = replicate 8 false ++ bits_of 16 rnti

-- a payload with its parity, whose last 16 bits are added to the identity, most significant bit first
unfoldable pub masked : List Bool → ℕ → List Bool
masked payload rnti = payload ++ map (λ j. plus (bit_of (parity payload) j) (bit_of (mask rnti) j)) (range_with_len 0 24)
