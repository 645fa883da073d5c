-- Words on upward closed sets of places.
use Rattle.std.proofs.Common.{ℕ, ◌≡◌, ◌<◌, Bool, true, false, ◌&&◌, refl, subst, sym, ◌∙◌}
use Rattle.std.specs.Prelude.{IsTrue}
use Rattle.bits_core.specs.CodeLengths.{is_code_length}
use Rattle.bits_core.specs.Ones.{contains_ones}
use Rattle.bits_core.proofs.CodeLengths.{power_of}
use Rattle.bits_core.proofs.Sums.{sum_below_same, sum_below-zero}
use Rattle.polar_kernel.specs.MatrixWord.{word_at}
use Rattle.polar_kernel.specs.Upward.{InputReadWithin, IsUpward, ZeroWordWithin}
use Rattle.polar_kernel.proofs.Halves.{word_at_twice}

-- the word of the word, at any code length
pub word_at-own : (n : ℕ) (u : ℕ → Bool) (j : ℕ) → IsTrue (is_code_length n) → j < n → word_at n (word_at n u) j ≡ u j
word_at-own n u j h l =
    let q = power_of n h in
    let P : ℕ → Type 0 = λ x. word_at x (word_at x u) j ≡ u j in
    subst P (sym q.power) (word_at_twice q.exponent u j (subst (λ (x : ℕ). j < x) q.power l))

and_same : (c a b : Bool) → (IsTrue c → a ≡ b) → (c && a) ≡ (c && b)
and_same true a b h = h refl
and_same false a b h = refl

and_zero : (c a : Bool) → (IsTrue c → a ≡ false) → (c && a) ≡ false
and_zero true a h = h refl
and_zero false a h = refl

-- on an upward closed set a word depends on the input bits of the set alone
pub word_at_within : (n : ℕ) (inside u v : ℕ → Bool) → IsUpward n inside → ((i : ℕ) → i < n → IsTrue (inside i) → u i ≡ v i) →
    (j : ℕ) → j < n → IsTrue (inside j) → word_at n u j ≡ word_at n v j
unfolding word_at
word_at_within n inside u v up same j l in_set =
    sum_below_same n (λ i. contains_ones i j && u i) (λ i. contains_ones i j && v i)
    (λ i b. and_same (contains_ones i j) (u i) (v i) (λ c. same i b (up j i l b in_set c)))

-- where the input is 0 on an upward closed set, the word is 0 on it
pub word_at-zero : ZeroWordWithin
unfolding word_at
word_at-zero n inside u up zeros j l in_set =
    sum_below-zero n (λ i. contains_ones i j && u i)
    (λ i b. and_zero (contains_ones i j) (u i) (λ c. zeros i b (up j i l b in_set c)))

and_inside : (a c d : Bool) → (IsTrue c → IsTrue a) → (c && d) ≡ (a && c && d)
and_inside true c d h = refl
and_inside false true d h = absurd (let f : false ≡ true = h refl in cc)
and_inside false false d h = refl

-- the input bit at a place of an upward closed set, by the word on that set
pub read_within : InputReadWithin
unfolding word_at
read_within n h inside u up i l in_set =
    sym (word_at-own n u i h l)
    ∙ sum_below_same n (λ j. contains_ones j i && word_at n u j) (λ j. inside j && contains_ones j i && word_at n u j)
    (λ j b. and_inside (inside j) (contains_ones j i) (word_at n u j) (λ c. up i j l b in_set c))
