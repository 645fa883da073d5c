-- Bits of a word.
use Rattle.std.proofs.Common.{ℕ, ◌≡◌, ◌<◌, Bool, false, ◌&&◌, List, length, ap, arith}
use Rattle.std.proofs.lemmas.List.FromFn.{get_or-map-range_with_len, length-map-range_with_len}
use Rattle.bits_core.specs.Bits.{bit_of}
use Rattle.bits_core.proofs.Sums.{sum_below_same}
use Rattle.bits_core.specs.Ones.{contains_ones}
use Rattle.polar_kernel.specs.MatrixWord.{word_at, matrix_word}

-- a word depends on the bits below its length alone
pub word_at_same : (n : ℕ) (u v : ℕ → Bool) (j : ℕ) → ((i : ℕ) → i < n → u i ≡ v i) → word_at n u j ≡ word_at n v j
unfolding word_at
word_at_same n u v j h =
    sum_below_same n (λ i. contains_ones i j && u i) (λ i. contains_ones i j && v i)
    (λ i l. ap (λ (b : Bool). contains_ones i j && b) (h i l))

-- a word has as many bits as its input
pub length-matrix_word : (u : List Bool) → length (matrix_word u) ≡ length u
unfolding matrix_word
length-matrix_word u = length-map-range_with_len (word_at (length u) (bit_of u)) 0 (length u)

-- a bit of the word of a list
pub bit_of-matrix_word : (u : List Bool) (j : ℕ) → j < length u → bit_of (matrix_word u) j ≡ word_at (length u) (bit_of u) j
unfolding matrix_word
bit_of-matrix_word u j l = get_or-map-range_with_len (word_at (length u) (bit_of u)) 0 (length u) j j false l (omega arith)
