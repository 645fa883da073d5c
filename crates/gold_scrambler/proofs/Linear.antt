-- A step of the second register is linear over its bits.
use Rattle.std.proofs.Common.{◌≡◌, ℕ, zero, suc, ◌+◌, ◌/◌, ◌%◌, ◌^◌, ◌<◌, inl, inr, sym, ◌∙◌, ap, refl, arith}
use Rattle.std.specs.Int.{bit_at}
use Rattle.std.specs.Int.RustNames.{bit_xor}
use Rattle.std.proofs.lemmas.Bool.{cases_lt}
use Rattle.std.proofs.lemmas.Nat.{xor_lt}
use Rattle.std.proofs.lemmas.Nat.Bits.{bit_at_xor, same_from_bits_below}
use Rattle.gold_scrambler.specs.Gold.{next2, state2}
use Rattle.gold_scrambler.proofs.Registers.{bit_at_shifted, bit_at_top, shifted_small}
use Rattle.gold_scrambler.proofs.Recurrences.{small2}

-- what comes in at the top of the second register
abbrev taps : ℕ → ℕ
taps x = x / 8 + x / 4 + x / 2 + x

-- the parity of the taps is that of their bits
taps_odd : (x : ℕ) → taps x % 2 ≡ (bit_at x 3 + bit_at x 2 + bit_at x 1 + bit_at x 0) % 2
taps_odd x = omega arith

-- the parity of sums of bits without carries
parities : (p q r s t u v w : ℕ)
    → ((p + t) % 2 + (q + u) % 2 + (r + v) % 2 + (s + w) % 2) % 2 ≡ ((p + q + r + s) % 2 + (t + u + v + w) % 2) % 2
parities p q r s t u v w = omega arith

-- what comes in for a sum is the sum of what comes in for each
taps-xor : (a b : ℕ) → taps (bit_xor a b) % 2 ≡ (taps a % 2 + taps b % 2) % 2
taps-xor a b =
    let bit : ℕ → ℕ = bit_at (bit_xor a b) in
    taps_odd (bit_xor a b)
    ∙ ap (λ n. (n + bit 2 + bit 1 + bit 0) % 2) (bit_at_xor a b 3)
    ∙ ap (λ n. ((bit_at a 3 + bit_at b 3) % 2 + n + bit 1 + bit 0) % 2) (bit_at_xor a b 2)
    ∙ ap (λ n. ((bit_at a 3 + bit_at b 3) % 2 + (bit_at a 2 + bit_at b 2) % 2 + n + bit 0) % 2) (bit_at_xor a b 1)
    ∙ ap (λ n. ((bit_at a 3 + bit_at b 3) % 2 + (bit_at a 2 + bit_at b 2) % 2 + (bit_at a 1 + bit_at b 1) % 2 + n) % 2)
    (bit_at_xor a b 0)
    ∙ parities (bit_at a 3) (bit_at a 2) (bit_at a 1) (bit_at a 0) (bit_at b 3) (bit_at b 2) (bit_at b 1) (bit_at b 0)
    ∙ ap (λ n. (n + (bit_at b 3 + bit_at b 2 + bit_at b 1 + bit_at b 0) % 2) % 2) (sym (taps_odd a))
    ∙ ap (λ n. (taps a % 2 + n) % 2) (sym (taps_odd b))

-- one step of a sum is the sum of the steps
next2-xor : (a b : ℕ) → a < 2 ^ 31 → b < 2 ^ 31 → next2 (bit_xor a b) ≡ bit_xor (next2 a) (next2 b)
next2-xor a b small small' =
    let sum = bit_xor a b in
    let sum_small = xor_lt 31 a b small small' in
    let both : ℕ → ℕ → ℕ = λ m n. (m + n) % 2 in
    same_from_bits_below 31 (next2 sum) (bit_xor (next2 a) (next2 b)) (shifted_small sum (taps sum) sum_small)
    (xor_lt 31 (next2 a) (next2 b) (shifted_small a (taps a) small) (shifted_small b (taps b) small'))
    (λ i l. elim (cases_lt i 30) as (λ _. bit_at (next2 sum) i ≡ bit_at (bit_xor (next2 a) (next2 b)) i) [
      | inl low ↦
          bit_at_shifted sum (taps sum % 2) i low ∙ bit_at_xor a b (suc i)
          ∙ ap (λ n. both n (bit_at b (suc i))) (sym (bit_at_shifted a (taps a % 2) i low))
          ∙ ap (λ n. both (bit_at (next2 a) i) n) (sym (bit_at_shifted b (taps b % 2) i low))
          ∙ sym (bit_at_xor (next2 a) (next2 b) i)
      | inr high ↦
          let top : i ≡ 30 = omega arith in
          ap (λ k. bit_at (next2 sum) k) top
          ∙ bit_at_top sum (taps sum) sum_small
          ∙ taps-xor a b
          ∙ ap (λ n. both n (taps b % 2)) (sym (bit_at_top a (taps a) small))
          ∙ ap (λ n. both (bit_at (next2 a) 30) n) (sym (bit_at_top b (taps b) small'))
          ∙ sym (bit_at_xor (next2 a) (next2 b) 30)
          ∙ ap (λ k. bit_at (bit_xor (next2 a) (next2 b)) k) (sym top)
    ])

-- so are many
pub state2-xor : (a b n : ℕ) → a < 2 ^ 31 → b < 2 ^ 31 → state2 (bit_xor a b) n ≡ bit_xor (state2 a n) (state2 b n)
unfolding state2
state2-xor a b zero small small' = refl
state2-xor a b (suc n) small small' =
    ap next2 (state2-xor a b n small small') ∙ next2-xor (state2 a n) (state2 b n) (small2 a n small) (small2 b n small')
