-- Laws of a word and an upward closed set: a set of places that has, with a place, each place whose binary ones contain
-- those of it (the matrix of 3GPP TS 38.212, 5.3.1.2 has its ones where a row's number contains a column's).
use Rattle.std.specs.Prelude.{◌≡◌, ℕ, ◌<◌, Bool, false, ◌&&◌, IsTrue}
use Rattle.bits_core.specs.Bits.{sum_below}
use Rattle.bits_core.specs.CodeLengths.{is_code_length}
use Rattle.bits_core.specs.Ones.{contains_ones}
use Rattle.polar_kernel.specs.MatrixWord.{word_at}

-- the set is closed upwards among the places below n
abbrev pub IsUpward : ℕ → (ℕ → Bool) → Type 0
IsUpward n inside = (i j : ℕ) → i < n → j < n → IsTrue (inside i) → IsTrue (contains_ones j i) → IsTrue (inside j)

-- the sum modulo 2 of the bits d j over the places j of the set whose ones contain those of i
abbrev pub sum_within : ℕ → (ℕ → Bool) → (ℕ → Bool) → ℕ → Bool
sum_within n inside d i = sum_below n (λ j. inside j && contains_ones j i && d j)

-- at a place of an upward closed set the input bit is the sum of the word's bits at those places of the set that contain
-- it: whatever the word holds outside the set, and also where the input is not 0 there
abbrev pub InputReadWithin : Type 0
InputReadWithin =
    (n : ℕ) → IsTrue (is_code_length n) → (inside u : ℕ → Bool) → IsUpward n inside →
    (i : ℕ) → i < n → IsTrue (inside i) → u i ≡ sum_within n inside (word_at n u) i

-- where the input is 0 on an upward closed set, the word is 0 on it too
abbrev pub ZeroWordWithin : Type 0
ZeroWordWithin =
    (n : ℕ) → (inside u : ℕ → Bool) → IsUpward n inside → ((i : ℕ) → i < n → IsTrue (inside i) → u i ≡ false) →
    (j : ℕ) → j < n → IsTrue (inside j) → word_at n u j ≡ false
