-- The least number of bits that tell so many things apart.
use Rattle.std.proofs.Common.{◌≡◌, ℕ, zero, suc, ◌+◌, ◌^◌, ◌<◌, ◌≤◌, Bool, inl, inr, cond, nat_le, Some, unwrap_or, ap}
use Rattle.std.proofs.Common.{sym, subst, arith, below_more}
use Rattle.std.specs.List.{range_with_len, find}
use Rattle.std.proofs.Math.Nat.{pow-le-pow_right}
use Rattle.std.proofs.lemmas.Bool.{leb-true, leb-false, cases_Bool, cases_order}
use Rattle.alloc_fields.specs.Widths.{bits_for}

-- b bits tell n things apart, and fewer do not
pub record IsLeast (n b : ℕ) : Type 0 where
  pub enough : n ≤ 2 ^ b
  pub least : (k : ℕ) → k < b → 2 ^ k < n

-- at most one number is the least
pub least_once : (n a b : ℕ) → IsLeast n a → IsLeast n b → a ≡ b
least_once n a b h k =
    elim (cases_order a b) [
      | inl e ↦ e
      | inr (inl less) ↦ absurd (omega (arith, h.enough, k.least a less))
      | inr (inr more) ↦ absurd (omega (arith, k.enough, h.least b more))
    ]

-- the test of a number of bits
abbrev tells : ℕ → ℕ → Bool
tells n bits = nat_le n (2 ^ bits)

-- the first number of a range that is enough
abbrev first_of_range : ℕ → ℕ → ℕ → ℕ
first_of_range n first count = unwrap_or (find (tells n) (range_with_len first count)) 0

first_is_least : (n first count : ℕ) → n ≤ 2 ^ (first + count) → ((k : ℕ) → k < first → 2 ^ k < n)
    → IsLeast n (first_of_range n first (suc count))
first_is_least n first zero h below =
    let here : first + 0 ≡ first = omega arith in
    let P : ℕ → Type 0 = λ m. n ≤ 2 ^ m in
    let enough : n ≤ 2 ^ first = subst P here h in
    let R : ℕ → Type 0 = λ b. IsLeast n b in
    elim (cases_Bool (tells n first)) [
      | inl does ↦
          subst R (sym (ap (λ (b : Bool). unwrap_or (cond b (Some first) (find (tells n) (range_with_len (first + 1) 0))) 0)
          does)) (record { enough = enough; least = below })
      | inr fails ↦ absurd (omega (arith, leb-false n (2 ^ first) fails, enough))
    ]
first_is_least n first (suc count) h below =
    let R : ℕ → Type 0 = λ b. IsLeast n b in
    let P : ℕ → Type 0 = λ m. n ≤ 2 ^ m in
    let move : first + suc count ≡ first + 1 + count = omega arith in
    elim (cases_Bool (tells n first)) [
      | inl does ↦
          subst R (sym (ap (λ (b : Bool). unwrap_or
          (cond b (Some first) (find (tells n) (range_with_len (first + 1) (suc count)))) 0) does))
          (record { enough = leb-true n (2 ^ first) does; least = below })
      | inr fails ↦
          let Q : ℕ → Type 0 = λ k. 2 ^ k < n in
          subst R (sym (ap (λ (b : Bool). unwrap_or
          (cond b (Some first) (find (tells n) (range_with_len (first + 1) (suc count)))) 0) fails))
          (first_is_least n (first + 1) count (subst P move h) (below_more Q first below (leb-false n (2 ^ first) fails)))
    ]

-- what `bits_for` gives is the least
pub bits_for-least : (n : ℕ) → n ≤ 2 ^ 32 → IsLeast n (bits_for n)
unfolding bits_for
bits_for-least n h = first_is_least n 0 32 h (λ k l. absurd (omega arith))

-- the least number is what `bits_for` gives
pub bits_for_is : (n b : ℕ) → n ≤ 2 ^ 32 → IsLeast n b → b ≡ bits_for n
bits_for_is n b h least = least_once n b (bits_for n) least (bits_for-least n h)

-- b bits that tell n things apart are at least as many
pub bits_for_le : (n b : ℕ) → n ≤ 2 ^ 32 → n ≤ 2 ^ b → bits_for n ≤ b
bits_for_le n b h enough =
    elim (cases_order b (bits_for n)) [
      | inl e ↦ omega arith
      | inr (inl less) ↦ absurd (omega (arith, enough, (bits_for-least n h).least b less))
      | inr (inr more) ↦ omega arith
    ]

-- more than one thing takes a bit
pub bits_for_more : (n b : ℕ) → n ≤ 2 ^ 32 → 2 ^ b < n → b < bits_for n
bits_for_more n b h more =
    elim (cases_order b (bits_for n)) [
      | inl e ↦ let P : ℕ → Type 0 = λ m. n ≤ 2 ^ m in absurd (omega (arith, more, subst P (sym e) (bits_for-least n h).enough))
      | inr (inl less) ↦ less
      | inr (inr above) ↦
          let two : 0 < 2 = omega arith in
          let low : bits_for n ≤ b = omega arith in
          absurd (omega (arith, more, (bits_for-least n h).enough, pow-le-pow_right two low))
    ]
