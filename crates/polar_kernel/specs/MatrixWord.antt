-- The word of a polar code: the input times the Kronecker power of [[1, 0], [1, 1]], modulo 2 (3GPP TS 38.212, 5.3.1.2).
use Rattle.std.specs.Prelude.{ℕ, Bool, ◌&&◌, List, length, map}
use Rattle.std.specs.List.{range_with_len}
use Rattle.bits_core.specs.Bits.{sum_below, bit_of}
use Rattle.bits_core.specs.Ones.{contains_ones}

-- bit j of the word of n bits: the sum of the bits u i over every row i below n with a one in column j, as the binary
-- ones of i contain those of j
unfoldable pub word_at : ℕ → (ℕ → Bool) → ℕ → Bool
word_at n u j = sum_below n (λ i. contains_ones i j && u i)

-- the word of a list of bits
unfoldable pub matrix_word : List Bool → List Bool
matrix_word u = map (word_at (length u) (bit_of u)) (range_with_len 0 (length u))
