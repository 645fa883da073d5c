-- Scrambling (3GPP TS 38.211, 7.3.2.3): each coded bit is added to the sequence's bit of its place.
use Rattle.std.specs.Prelude.{ℕ, Bool, List, map, length}
use Rattle.std.specs.List.{range_with_len}
use Rattle.bits_core.specs.Bits.{plus, bit_of}
use Rattle.gold_scrambler.specs.Gold.{gold}

-- bit i of the bits, added to the sequence's
abbrev pub scrambled_bit : ℕ → List Bool → ℕ → Bool
scrambled_bit c_init bits i = plus (bit_of bits i) (gold c_init i)

-- the bits, added to the sequence of a start value
abbrev pub scrambled : ℕ → List Bool → List Bool
scrambled c_init bits = map (scrambled_bit c_init bits) (range_with_len 0 (length bits))
