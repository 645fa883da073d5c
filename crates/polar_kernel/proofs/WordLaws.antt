-- The word of the word of a list of bits.
use Rattle.std.proofs.Common.{ℕ, ◌≡◌, ◌^◌, ◌<◌, Bool, false, List, length, ap, subst, sym, ◌∙◌}
use Rattle.std.proofs.lemmas.List.FromFn.{fill_by_all}
use Rattle.bits_core.specs.Bits.{bit_of}
use Rattle.bits_core.proofs.CodeLengths.{power_of}
use Rattle.polar_kernel.specs.MatrixWord.{matrix_word, word_at}
use Rattle.polar_kernel.specs.WordLaws.{WordIsOwnInverse}
use Rattle.polar_kernel.proofs.Halves.{word_at_twice}
use Rattle.polar_kernel.proofs.Words.{bit_of-matrix_word, length-matrix_word, word_at_same}

-- bit j of the word of n bits of the word of u
bit_twice : (u : List Bool) (n m j : ℕ) → length u ≡ 2 ^ m → n ≡ length u → j < n →
    bit_of u j ≡ word_at n (bit_of (matrix_word u)) j
bit_twice u n m j e f l =
    let whole : n ≡ 2 ^ m = f ∙ e in
    sym
    (ap (λ (x : ℕ). word_at x (bit_of (matrix_word u)) j) whole
    ∙ word_at_same (2 ^ m) (bit_of (matrix_word u)) (word_at (2 ^ m) (bit_of u)) j
    (λ i b.
    bit_of-matrix_word u i (subst (λ (x : ℕ). i < x) (sym e) b)
    ∙ ap (λ (x : ℕ). word_at x (bit_of u) i) e)
    ∙ word_at_twice m (bit_of u) j (subst (λ (x : ℕ). j < x) whole l))

-- the word of the word is the bits
pub word_word : WordIsOwnInverse
unfolding matrix_word
word_word u h =
    let q = power_of (length u) h in
    let n = length (matrix_word u) in
    sym
    (fill_by_all (word_at n (bit_of (matrix_word u))) u n false (sym (length-matrix_word u))
    (λ j l. bit_twice u n q.exponent j q.power (length-matrix_word u) l))
