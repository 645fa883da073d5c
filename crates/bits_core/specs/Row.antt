-- A row of bits in packed words: bit i is bit i % 64 of word i / 64.
use Rattle.std.specs.Prelude.{ℕ, ◌/◌, ◌%◌, Bool, List, map, slice_index}
use Rattle.std.specs.List.{range_with_len}
use Rattle.bits_core.specs.Ones.{has_one}

-- the bit at a place of packed words
abbrev pub word_bit : List ℕ → ℕ → Bool
word_bit words i = has_one (slice_index words (i / 64)) (i % 64)

-- the first n bits of packed words
abbrev pub row_bits : List ℕ → ℕ → List Bool
row_bits words n = map (word_bit words) (range_with_len 0 n)
