-- The remainders of the powers of D.
use Rattle.std.proofs.Common.{◌≡◌, ℕ, zero, suc, ◌+◌, ◌<◌, ◌≤◌, false, ◌&&◌, length, refl, arith}
use Rattle.std.proofs.lemmas.List.{get_or_past}
use Rattle.std.proofs.lemmas.List.FromFn.{length-map-range_with_len, get_or-map-range_with_len}
use Rattle.bits_core.specs.Bits.{plus, bit_of}
use Rattle.bits_core.proofs.Numbers.{length-bits_of}
use Rattle.crc_mask.specs.Parity.{generator, times_d, remainder}

-- a remainder has 24 bits
pub length-remainder : (k : ℕ) → length (remainder k) ≡ 24
unfolding remainder times_d
length-remainder zero = length-bits_of 24 1
length-remainder (suc k) =
    length-map-range_with_len (λ j. plus (bit_of (remainder k) (j + 1)) (bit_of (remainder k) 0 && bit_of generator j)) 0 24

-- and none past them
pub remainder_past : (k j : ℕ) → 24 ≤ j → bit_of (remainder k) j ≡ false
remainder_past k j h = get_or_past (remainder k) j false (omega (arith, length-remainder k))

-- a bit of the next remainder
pub remainder-suc : (k j : ℕ) → j < 24
    → bit_of (remainder (suc k)) j ≡ plus (bit_of (remainder k) (j + 1)) (bit_of (remainder k) 0 && bit_of generator j)
unfolding remainder times_d
remainder-suc k j h =
    get_or-map-range_with_len (λ j. plus (bit_of (remainder k) (j + 1)) (bit_of (remainder k) 0 && bit_of generator j)) 0 24
    j j false h (omega arith)

-- D^24 leaves the generator's low 24 bits
pub remainder_24 : remainder 24 ≡ generator
unfolding remainder times_d generator
remainder_24 = refl
