-- Of the code, not of the standard: the parity register, 24 bits, most significant first.
use Rattle.std.specs.Prelude.{ℕ, zero, suc, ◌+◌, ◌-◌, Bool, ◌&&◌, List, map}
use Rattle.std.specs.List.{range_with_len}
use Rattle.bits_core.specs.Bits.{plus, sum_below, bit_of, bits_of}
use Rattle.crc_mask.specs.Parity.{generator, remainder}

-- the register once a bit has gone in: moved up by one, plus the generator where the bit that left and that bit add to 1
unfoldable pub advanced : List Bool → Bool → List Bool
advanced r bit = map (λ j. plus (bit_of r (j + 1)) (plus (bit_of r 0) bit && bit_of generator j)) (range_with_len 0 24)

-- the register once the first bits of a row, so many, have gone in one after another
unfoldable pub fed : List Bool → List Bool → ℕ → List Bool
fed r bits zero = r
fed r bits (suc count) = advanced (fed r bits count) (bit_of bits count)

-- a byte times D^24, reduced: the sum of D^(31 - i) modulo the generator over the places i of its ones, most significant first
unfoldable pub shifted_byte : ℕ → List Bool
shifted_byte byte = map (λ j. sum_below 8 (λ i. bit_of (bits_of 8 byte) i && bit_of (remainder (31 - i)) j)) (range_with_len 0 24)
