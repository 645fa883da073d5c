-- The place in the order of sending of each bit that is sent.
use Rattle.std.proofs.Common.{ℕ, ◌≡◌, ◌+◌, ◌-◌, ◌*◌, ◌%◌, ◌<◌, ◌≤◌, inl, inr, refl, ap, sym, ◌∙◌, arith}
use Rattle.std.proofs.lemmas.Bool.{cases_lt, le-leb, lt-leb}
use Rattle.std.proofs.Math.Nat.{mod-eq_of_lt, mod-lt}
use Rattle.rate_match.specs.RateMatching.{matching, place_by, sent_place}
use Rattle.rate_match.specs.declared.matching.Matching.{Matching}
use Rattle.rate_match.specs.declared.matching.Matching.TheVariants.{Repeated, Punctured, Shortened}

-- the way that a condition gives
pub matching-repeated : (n k e : ℕ) → n ≤ e → matching n k e ≡ Repeated
unfolding matching
matching-repeated n k e h = rw (le-leb n e h) refl

-- with fewer bits than the word, and a low rate
pub matching_punctured : (n k e : ℕ) → e < n → 16 * k ≤ 7 * e → matching n k e ≡ Punctured
unfolding matching
matching_punctured n k e h l = rw (lt-leb n e h, le-leb (16 * k) (7 * e) l) refl

-- with fewer bits than the word, and a high rate
pub matching_shortened : (n k e : ℕ) → e < n → 7 * e < 16 * k → matching n k e ≡ Shortened
unfolding matching
matching_shortened n k e h l = rw (lt-leb n e h, lt-leb (16 * k) (7 * e) l) refl

-- with repetition
pub sent_repeated : (n k e i : ℕ) → n ≤ e → sent_place n k e i ≡ i % n
unfolding sent_place
sent_repeated n k e i h = rw (matching-repeated n k e h) refl

-- with puncturing
pub sent_punctured : (n k e i : ℕ) → e < n → 16 * k ≤ 7 * e → sent_place n k e i ≡ i + (n - e)
unfolding sent_place
sent_punctured n k e i h l = rw (matching_punctured n k e h l) refl

-- with shortening
pub sent_shortened : (n k e i : ℕ) → e < n → 7 * e < 16 * k → sent_place n k e i ≡ i
unfolding sent_place
sent_shortened n k e i h l = rw (matching_shortened n k e h l) refl

-- by the way that it is
pub sent_by : (n k e i : ℕ) (way : Matching) → way ≡ matching n k e → sent_place n k e i ≡ place_by way n e i
unfolding sent_place
sent_by n k e i way h = ap (λ (w : Matching). place_by w n e i) (sym h)

-- one of the three ways
pub by_ways : (P : ℕ → ℕ → ℕ → Type 0) → ((n k e : ℕ) → n ≤ e → P n k e) → ((n k e : ℕ) → e < n → 16 * k ≤ 7 * e → P n k e) →
    ((n k e : ℕ) → e < n → 7 * e < 16 * k → P n k e) → (n k e : ℕ) → P n k e
by_ways P repeated punctured shortened n k e =
    elim (cases_lt e n) [
      | inl l ↦ elim (cases_lt (7 * e) (16 * k)) [
        | inl f ↦ shortened n k e l f
        | inr g ↦ punctured n k e l g
      ]
      | inr g ↦ repeated n k e g
    ]

-- each bit that is sent has a place below the length of the word
pub sent_below : (n k e i : ℕ) → 0 < n → i < e → sent_place n k e i < n
sent_below =
    by_ways (λ n k e. (i : ℕ) → 0 < n → i < e → sent_place n k e i < n)
    (λ n k e h i l b. (let m : i % n < n = mod-lt i l in let s = sent_repeated n k e i h in omega arith))
    (λ n k e h g i l b. (let s = sent_punctured n k e i h g in omega arith))
    (λ n k e h g i l b. (let s = sent_shortened n k e i h g in omega arith))

-- no two of the bits that are sent first have one place
pub sent_once : (n k e i j : ℕ) → i < e → j < e → i < n → j < n → sent_place n k e i ≡ sent_place n k e j → i ≡ j
sent_once =
    by_ways (λ n k e. (i j : ℕ) → i < e → j < e → i < n → j < n → sent_place n k e i ≡ sent_place n k e j → i ≡ j)
    (λ n k e h i j a b f g q.
    sym (mod-eq_of_lt f) ∙ sym (sent_repeated n k e i h) ∙ q ∙ sent_repeated n k e j h ∙ mod-eq_of_lt g)
    (λ n k e h c i j a b f g q. (let s = sent_punctured n k e i h c in let t = sent_punctured n k e j h c in omega arith))
    (λ n k e h c i j a b f g q. (let s = sent_shortened n k e i h c in let t = sent_shortened n k e j h c in omega arith))
