-- A word by the halves of its bits, and that the word of the word is the bits.
use Rattle.std.proofs.Common.{ℕ, ◌≡◌, ◌+◌, ◌-◌, ◌*◌, ◌^◌, ◌<◌, zero, suc, Bool, false, ◌&&◌, inl, inr, refl, ap, subst, ◌∙◌}
use Rattle.std.proofs.Common.{arith}
use Rattle.std.proofs.Math.Nat.{pow-suc}
use Rattle.std.proofs.lemmas.Bool.{and_left, cases_lt}
use Rattle.bits_core.specs.Bits.{plus, sum_below}
use Rattle.bits_core.proofs.Sums.{and-plus, plus_cancel, sum_below-add, sum_below-plus, sum_below_same, sum_below-zero}
use Rattle.bits_core.specs.Ones.{contains_ones}
use Rattle.bits_core.proofs.Ones.{contains_block}
use Rattle.polar_kernel.specs.MatrixWord.{word_at}
use Rattle.polar_kernel.proofs.Words.{word_at_same}

-- the next power of two is twice the last
pub doubled : (k : ℕ) → 2 ^ suc k ≡ 2 ^ k + 2 ^ k
doubled k = pow-suc 2 k ∙ omega arith

-- what holds below 2 ^ k, and as far from there on, holds below 2 ^ (k + 1)
pub by_halves : (k : ℕ) (P : ℕ → Type 0) → ((j : ℕ) → j < 2 ^ k → P j) → ((j : ℕ) → j < 2 ^ k → P (2 ^ k + j)) →
    (j : ℕ) → j < 2 ^ suc k → P j
by_halves k P low high j l =
    elim (cases_lt j (2 ^ k)) [
      | inl f ↦ low j f
      | inr g ↦
          let d = doubled k in
          let e : 2 ^ k + (j - 2 ^ k) ≡ j = omega arith in
          subst P e (high (j - 2 ^ k) (omega arith))
    ]

one_block : (n r : ℕ) → n + r ≡ 1 * n + r
one_block n r = omega arith

no_block : (n r : ℕ) → r ≡ 0 * n + r
no_block n r = omega arith

contains_high_low : (k r s : ℕ) → r < 2 ^ k → s < 2 ^ k → contains_ones (2 ^ k + r) s ≡ contains_ones r s
unfolding contains_ones
contains_high_low k r s l m =
    ap (λ (i : ℕ). contains_ones i s) (one_block (2 ^ k) r) ∙ ap (contains_ones (1 * 2 ^ k + r)) (no_block (2 ^ k) s)
    ∙ contains_block k 1 0 r s l m

contains_low_high : (k r s : ℕ) → r < 2 ^ k → s < 2 ^ k → contains_ones r (2 ^ k + s) ≡ false
unfolding contains_ones
contains_low_high k r s l m =
    ap (λ (i : ℕ). contains_ones i (2 ^ k + s)) (no_block (2 ^ k) r) ∙ ap (contains_ones (0 * 2 ^ k + r)) (one_block (2 ^ k) s)
    ∙ contains_block k 0 1 r s l m

contains_high_high : (k r s : ℕ) → r < 2 ^ k → s < 2 ^ k → contains_ones (2 ^ k + r) (2 ^ k + s) ≡ contains_ones r s
unfolding contains_ones
contains_high_high k r s l m =
    ap (λ (i : ℕ). contains_ones i (2 ^ k + s)) (one_block (2 ^ k) r) ∙ ap (contains_ones (1 * 2 ^ k + r)) (one_block (2 ^ k) s)
    ∙ contains_block k 1 1 r s l m

-- the sum over twice as many rows, by its halves
split_sum : (k : ℕ) (u : ℕ → Bool) (j : ℕ) →
    word_at (2 ^ suc k) u j ≡ plus (word_at (2 ^ k) u j) (sum_below (2 ^ k) (λ i. contains_ones (2 ^ k + i) j && u (2 ^ k + i)))
unfolding word_at
split_sum k u j =
    ap (λ (n : ℕ). sum_below n (λ i. contains_ones i j && u i)) (doubled k)
    ∙ sum_below-add (2 ^ k) (2 ^ k) (λ i. contains_ones i j && u i)

-- the low half of a word is the sum of the words of both halves
pub word_at_low : (k : ℕ) (u : ℕ → Bool) (j : ℕ) → j < 2 ^ k →
    word_at (2 ^ suc k) u j ≡ plus (word_at (2 ^ k) u j) (word_at (2 ^ k) (λ i. u (2 ^ k + i)) j)
unfolding word_at
word_at_low k u j l =
    split_sum k u j
    ∙ ap (plus (word_at (2 ^ k) u j))
    (sum_below_same (2 ^ k) (λ i. contains_ones (2 ^ k + i) j && u (2 ^ k + i)) (λ i. contains_ones i j && u (2 ^ k + i))
    (λ i m. ap (λ (b : Bool). b && u (2 ^ k + i)) (contains_high_low k i j m l)))

-- the high half of a word is the word of the high half
pub word_at_high : (k : ℕ) (u : ℕ → Bool) (j : ℕ) → j < 2 ^ k →
    word_at (2 ^ suc k) u (2 ^ k + j) ≡ word_at (2 ^ k) (λ i. u (2 ^ k + i)) j
unfolding word_at
word_at_high k u j l =
    split_sum k u (2 ^ k + j)
    ∙ ap (λ (b : Bool). plus b (sum_below (2 ^ k) (λ i. contains_ones (2 ^ k + i) (2 ^ k + j) && u (2 ^ k + i))))
    (sum_below-zero (2 ^ k) (λ i. contains_ones i (2 ^ k + j) && u i)
    (λ i m. and_left (contains_ones i (2 ^ k + j)) (u i) (contains_low_high k i j m l)))
    ∙ sum_below_same (2 ^ k) (λ i. contains_ones (2 ^ k + i) (2 ^ k + j) && u (2 ^ k + i))
    (λ i. contains_ones i j && u (2 ^ k + i))
    (λ i m. ap (λ (b : Bool). b && u (2 ^ k + i)) (contains_high_high k i j m l))

-- the word of a sum is the sum of the words
pub word_at-plus : (n : ℕ) (u v : ℕ → Bool) (j : ℕ) → word_at n (λ i. plus (u i) (v i)) j ≡ plus (word_at n u j) (word_at n v j)
unfolding word_at
word_at-plus n u v j =
    sum_below_same n (λ i. contains_ones i j && plus (u i) (v i))
    (λ i. plus (contains_ones i j && u i) (contains_ones i j && v i))
    (λ i l. and-plus (contains_ones i j) (u i) (v i))
    ∙ sum_below-plus n (λ i. contains_ones i j && u i) (λ i. contains_ones i j && v i)

twice_one : (u : ℕ → Bool) → word_at 1 (word_at 1 u) 0 ≡ u 0
unfolding word_at sum_below contains_ones
twice_one u = refl

-- the word of the word is the bits
pub word_at_twice : (k : ℕ) (u : ℕ → Bool) (j : ℕ) → j < 2 ^ k → word_at (2 ^ k) (word_at (2 ^ k) u) j ≡ u j
word_at_twice zero u j l =
    let e : 0 ≡ j = omega arith in
    subst (λ (i : ℕ). word_at 1 (word_at 1 u) i ≡ u i) e (twice_one u)
word_at_twice (suc k) u j l =
    let high : ℕ → Bool = λ i. u (2 ^ k + i) in
    let whole : ℕ → Bool = word_at (2 ^ suc k) u in
    let of_high : (j : ℕ) → j < 2 ^ k → word_at (2 ^ k) (λ i. whole (2 ^ k + i)) j ≡ high j =
    λ j l.
    word_at_same (2 ^ k) (λ i. whole (2 ^ k + i)) (word_at (2 ^ k) high) j (λ i m. word_at_high k u i m)
    ∙ word_at_twice k high j l in
    by_halves k (λ j. word_at (2 ^ suc k) whole j ≡ u j)
    (λ j l.
    word_at_low k whole j l
    ∙ ap (λ (b : Bool). plus b (word_at (2 ^ k) (λ i. whole (2 ^ k + i)) j))
    (word_at_same (2 ^ k) whole (λ i. plus (word_at (2 ^ k) u i) (word_at (2 ^ k) high i)) j (λ i m. word_at_low k u i m)
    ∙ word_at-plus (2 ^ k) (word_at (2 ^ k) u) (word_at (2 ^ k) high) j
    ∙ ap (λ (b : Bool). plus b (word_at (2 ^ k) (word_at (2 ^ k) high) j)) (word_at_twice k u j l)
    ∙ ap (plus (u j)) (word_at_twice k high j l))
    ∙ ap (plus (plus (u j) (high j))) (of_high j l)
    ∙ plus_cancel (u j) (high j))
    (λ i m. word_at_high k whole i m ∙ of_high i m) j l
