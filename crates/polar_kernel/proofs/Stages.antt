-- After t stages each run of 2 ^ t bits is its word.
use Rattle.std.proofs.Common.{ℕ, ◌≡◌, ◌+◌, ◌*◌, ◌^◌, ◌<◌, suc, Bool, refl, ap, subst, sym, ◌∙◌, arith}
use Rattle.std.specs.Prelude.{bit_and}
use Rattle.std.specs.Int.Bits.{and_zero_r}
use Rattle.std.proofs.Math.Pow.{pow-lt}
use Rattle.std.proofs.lemmas.Bool.{eq-eqb, ne_eqb}
use Rattle.std.proofs.lemmas.Nat.{and_block, and_mask, or_disjoint, or_lt}
use Rattle.bits_core.specs.Bits.{plus, sum_below}
use Rattle.bits_core.specs.Ones.{contains_ones}
use Rattle.polar_kernel.specs.MatrixWord.{word_at}
use Rattle.polar_kernel.specs.Stages.{AfterStages, HasPartners, staged}
use Rattle.polar_kernel.proofs.Halves.{by_halves, doubled, word_at_high, word_at_low}
use Rattle.polar_kernel.proofs.Words.{word_at_same}

-- of one bit the word is that bit
word_of_one : (u : ℕ → Bool) → word_at 1 u 0 ≡ u 0
unfolding word_at sum_below contains_ones
word_of_one u = refl

-- no stage
pub after_none : (n : ℕ) (u : ℕ → Bool) → AfterStages n 0 u u
after_none n u q r l m =
    let e : 0 ≡ r = omega arith in
    subst (λ (i : ℕ). u (q * 1 + i) ≡ word_at 1 (λ k. u (q * 1 + k)) i) e (sym (word_of_one (λ k. u (q * 1 + k))))

-- each stage of a word has its partners
pub partners_at : (m t : ℕ) → t < m → HasPartners (2 ^ m) (2 ^ t)
partners_at m t l j b h = subst (λ (i : ℕ). i < 2 ^ m) (or_disjoint j (2 ^ t) h) (or_lt m j (2 ^ t) b (pow-lt l))

-- the digit of 2 ^ t is that of the number of the run
even_digit : (q : ℕ) → bit_and (2 * q) 1 ≡ 0
even_digit q = and_mask (2 * q) 1 ∙ omega arith

odd_digit : (q : ℕ) → bit_and (2 * q + 1) 1 ≡ 1
odd_digit q = and_mask (2 * q + 1) 1 ∙ omega arith

digit_at : (t a r : ℕ) → r < 2 ^ t → 0 < 2 ^ t → bit_and (a * 2 ^ t + r) (2 ^ t) ≡ bit_and a 1 * 2 ^ t
digit_at t a r l p =
    let one : 2 ^ t ≡ 1 * 2 ^ t + 0 = omega arith in
    ap (bit_and (a * 2 ^ t + r)) one ∙ and_block t a 1 r 0 l p ∙ ap (λ (x : ℕ). bit_and a 1 * 2 ^ t + x) (and_zero_r r)
    ∙ omega arith

staged_even : (t q r : ℕ) (w : ℕ → Bool) → r < 2 ^ t → 0 < 2 ^ t →
    staged (2 ^ t) w (2 * q * 2 ^ t + r) ≡ plus (w (2 * q * 2 ^ t + r)) (w (2 * q * 2 ^ t + r + 2 ^ t))
staged_even t q r w l p =
    rw (eq-eqb (bit_and (2 * q * 2 ^ t + r) (2 ^ t)) 0
    (digit_at t (2 * q) r l p ∙ ap (λ (x : ℕ). x * 2 ^ t) (even_digit q) ∙ omega arith)) refl

staged_odd : (t q r : ℕ) (w : ℕ → Bool) → r < 2 ^ t → 0 < 2 ^ t
    → staged (2 ^ t) w ((2 * q + 1) * 2 ^ t + r) ≡ w ((2 * q + 1) * 2 ^ t + r)
staged_odd t q r w l p =
    let e : bit_and ((2 * q + 1) * 2 ^ t + r) (2 ^ t) ≡ 2 ^ t =
    digit_at t (2 * q + 1) r l p ∙ ap (λ (x : ℕ). x * 2 ^ t) (odd_digit q) ∙ omega arith in
    rw (ne_eqb (bit_and ((2 * q + 1) * 2 ^ t + r) (2 ^ t)) 0 (λ h. omega arith)) refl

digit_even : (t q r : ℕ) → r < 2 ^ t → 0 < 2 ^ t → bit_and (2 * q * 2 ^ t + r) (2 ^ t) ≡ 0
digit_even t q r l p = digit_at t (2 * q) r l p ∙ ap (λ (x : ℕ). x * 2 ^ t) (even_digit q) ∙ omega arith

-- where a run of twice the length begins, and its second half
run_at : (x y q i : ℕ) → x ≡ y + y → q * x + i ≡ 2 * q * y + i
run_at x y q i e = ap (λ (z : ℕ). q * z + i) e ∙ omega arith

half_at : (x y q i : ℕ) → x ≡ y + y → q * x + (y + i) ≡ (2 * q + 1) * y + i
half_at x y q i e = ap (λ (z : ℕ). q * z + (y + i)) e ∙ omega arith

next_at : (y q i : ℕ) → 2 * q * y + i + y ≡ (2 * q + 1) * y + i
next_at y q i = omega arith

-- what w holds in the two halves of a run of twice the length
low_half : (n t q r : ℕ) (u w : ℕ → Bool) → AfterStages n t u w → r < 2 ^ t → 2 * q * 2 ^ t + r < n →
    w (2 * q * 2 ^ t + r) ≡ word_at (2 ^ t) (λ i. u (q * 2 ^ suc t + i)) r
low_half n t q r u w after l b =
    after (2 * q) r l b
    ∙ word_at_same (2 ^ t) (λ i. u (2 * q * 2 ^ t + i)) (λ i. u (q * 2 ^ suc t + i)) r
    (λ i m. ap u (sym (run_at (2 ^ suc t) (2 ^ t) q i (doubled t))))

high_half : (n t q r : ℕ) (u w : ℕ → Bool) → AfterStages n t u w → r < 2 ^ t → (2 * q + 1) * 2 ^ t + r < n →
    w ((2 * q + 1) * 2 ^ t + r) ≡ word_at (2 ^ t) (λ i. u (q * 2 ^ suc t + (2 ^ t + i))) r
high_half n t q r u w after l b =
    after (2 * q + 1) r l b
    ∙ word_at_same (2 ^ t) (λ i. u ((2 * q + 1) * 2 ^ t + i)) (λ i. u (q * 2 ^ suc t + (2 ^ t + i))) r
    (λ i m. ap u (sym (half_at (2 ^ suc t) (2 ^ t) q i (doubled t))))

partner_below : (n t q r : ℕ) → HasPartners n (2 ^ t) → r < 2 ^ t → 2 * q * 2 ^ t + r < n → (2 * q + 1) * 2 ^ t + r < n
partner_below n t q r partners l b =
    subst (λ (i : ℕ). i < n) (next_at (2 ^ t) q r) (partners (2 * q * 2 ^ t + r) b (digit_even t q r l (omega arith)))

more_low : (n t q r : ℕ) (u w : ℕ → Bool) → HasPartners n (2 ^ t) → AfterStages n t u w → r < 2 ^ t → 2 * q * 2 ^ t + r < n →
    staged (2 ^ t) w (2 * q * 2 ^ t + r) ≡ word_at (2 ^ suc t) (λ i. u (q * 2 ^ suc t + i)) r
more_low n t q r u w partners after l b =
    staged_even t q r w l (omega arith)
    ∙ ap (λ (x : Bool). plus x (w (2 * q * 2 ^ t + r + 2 ^ t))) (low_half n t q r u w after l b)
    ∙ ap (plus (word_at (2 ^ t) (λ i. u (q * 2 ^ suc t + i)) r))
    (ap w (next_at (2 ^ t) q r) ∙ high_half n t q r u w after l (partner_below n t q r partners l b))
    ∙ sym (word_at_low t (λ i. u (q * 2 ^ suc t + i)) r l)

more_high : (n t q r : ℕ) (u w : ℕ → Bool) → AfterStages n t u w → r < 2 ^ t → (2 * q + 1) * 2 ^ t + r < n →
    staged (2 ^ t) w ((2 * q + 1) * 2 ^ t + r) ≡ word_at (2 ^ suc t) (λ i. u (q * 2 ^ suc t + i)) (2 ^ t + r)
more_high n t q r u w after l b =
    staged_odd t q r w l (omega arith)
    ∙ high_half n t q r u w after l b
    ∙ sym (word_at_high t (λ i. u (q * 2 ^ suc t + i)) r l)

-- one stage more
pub after_more : (n t : ℕ) (u w v : ℕ → Bool) → HasPartners n (2 ^ t) → AfterStages n t u w →
    ((j : ℕ) → j < n → v j ≡ staged (2 ^ t) w j) → AfterStages n (suc t) u v
after_more n t u w v partners after stage q =
    by_halves t (λ r. q * 2 ^ suc t + r < n → v (q * 2 ^ suc t + r) ≡ word_at (2 ^ suc t) (λ i. u (q * 2 ^ suc t + i)) r)
    (λ r l b.
    let e = run_at (2 ^ suc t) (2 ^ t) q r (doubled t) in
    stage (q * 2 ^ suc t + r) b ∙ ap (staged (2 ^ t) w) e
    ∙ more_low n t q r u w partners after l (subst (λ (i : ℕ). i < n) e b))
    (λ r l b.
    let e = half_at (2 ^ suc t) (2 ^ t) q r (doubled t) in
    stage (q * 2 ^ suc t + (2 ^ t + r)) b ∙ ap (staged (2 ^ t) w) e
    ∙ more_high n t q r u w after l (subst (λ (i : ℕ). i < n) e b))

-- all stages
pub after_all : (t : ℕ) (u w : ℕ → Bool) → AfterStages (2 ^ t) t u w → (j : ℕ) → j < 2 ^ t → w j ≡ word_at (2 ^ t) u j
after_all t u w after j l =
    let first : (i : ℕ) → 0 * 2 ^ t + i ≡ i = λ i. omega arith in
    ap w (sym (first j))
    ∙ after 0 j l (omega arith)
    ∙ word_at_same (2 ^ t) (λ i. u (0 * 2 ^ t + i)) u j (λ i m. ap u (first i))
