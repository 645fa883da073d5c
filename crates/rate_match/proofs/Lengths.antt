-- The least power of two from a number on, and that the length of the mother code is legal.
use Rattle.std.proofs.Common.{ℕ, ◌≡◌, ◌+◌, ◌-◌, ◌*◌, ◌^◌, ◌<◌, ◌≤◌, zero, suc, min, max, nat_lt, inl, inr, refl, ap}
use Rattle.std.proofs.Common.{subst, sym, ◌∙◌, arith, lit<}
use Rattle.std.specs.Prelude.{IsTrue, if◌then◌else◌}
use Rattle.std.proofs.lemmas.Bool.{cases_lt}
use Rattle.std.proofs.Math.Nat.{pow-le-pow_right, add-suc, add-zero, le-max_right, max-le, min-le_right, pow-suc}
use Rattle.bits_core.specs.CodeLengths.{is_code_length}
use Rattle.rate_match.specs.MotherCode.{exponent_of, least_power, length_of, powers_below}

-- b is the least with x ≤ 2 ^ b
pub record IsLeastPower (x b : ℕ) : Type 0 where
  pub reaches : x ≤ 2 ^ b
  pub least : (c : ℕ) → c < b → 2 ^ c < x

below_power : (n : ℕ) → n < 2 ^ n
below_power zero = lit< tt
below_power (suc n) = let h = below_power n in let e = pow-suc 2 n in omega arith

one_counted : (x c : ℕ) → 2 ^ c < x → ◌≡◌ {A = ℕ} (if nat_lt (2 ^ c) x then 1 else 0) 1
one_counted x c h = grind arith

none_counted : (x c : ℕ) → x ≤ 2 ^ c → ◌≡◌ {A = ℕ} (if nat_lt (2 ^ c) x then 1 else 0) 0
none_counted x c h = grind arith

counted_low : (x b count : ℕ) → IsLeastPower x b → count ≤ b → powers_below count x ≡ count
unfolding powers_below
counted_low x b zero p h = refl
counted_low x b (suc count) p h =
    let n = counted_low x b count p (omega arith) in
    let one = one_counted x count (p.least count (omega arith)) in
    omega arith

counted_high : (x b more : ℕ) → IsLeastPower x b → powers_below (b + more) x ≡ b
unfolding powers_below
counted_high x b zero p = ap (λ (c : ℕ). powers_below c x) (add-zero b) ∙ counted_low x b b p (omega arith)
counted_high x b (suc more) p =
    let above : 2 ^ b ≤ 2 ^ (b + more) = pow-le-pow_right (lit< tt) (omega arith) in
    let h = p.reaches in
    let n = counted_high x b more p in
    let none = none_counted x (b + more) (omega arith) in
    let e : powers_below (suc (b + more)) x ≡ b = omega arith in
    ap (λ (c : ℕ). powers_below c x) (add-suc b more) ∙ e

least_below : (x b : ℕ) → IsLeastPower x b → b ≤ x
least_below x b p =
    elim (cases_lt x b) [
      | inl l ↦ (let h = p.least x l in let g = below_power x in absurd (omega arith))
      | inr g ↦ g
    ]

-- only one number is the least
pub least_power_is : (x b : ℕ) → IsLeastPower x b → b ≡ least_power x
least_power_is x b p =
    let le = least_below x b p in
    let whole : b + (x - b) ≡ x = omega arith in
    sym (ap (λ (c : ℕ). powers_below c x) (sym whole) ∙ counted_high x b (x - b) p)

-- what a loop leaves that doubles a power until it reaches x
pub least_by_doubling : (x power b : ℕ) → power ≡ 2 ^ b → x ≤ power → ((c : ℕ) → c < b → 2 ^ c < x) → b ≡ least_power x
least_by_doubling x power b e l h = least_power_is x b (record { reaches = subst (λ (y : ℕ). x ≤ y) e l; least = h })

-- the least power is small where the number is
pub least_most : (x power b m : ℕ) → power ≡ 2 ^ b → ((c : ℕ) → c < b → 2 ^ c < x) → x ≤ 2 ^ m → b ≤ m
least_most x power b m e h l =
    elim (cases_lt m b) [
      | inl f ↦ (let g = h m f in absurd (omega arith))
      | inr g ↦ g
    ]

legal_power : (more : ℕ) → more ≤ 4 → IsTrue (is_code_length (2 ^ (5 + more)))
legal_power zero h = refl
legal_power (suc zero) h = refl
legal_power (suc (suc zero)) h = refl
legal_power (suc (suc (suc zero))) h = refl
legal_power (suc (suc (suc (suc zero)))) h = refl
legal_power (suc (suc (suc (suc (suc more))))) h = absurd (omega arith)

legal_exponent : (m : ℕ) → 5 ≤ m → m ≤ 9 → IsTrue (is_code_length (2 ^ m))
legal_exponent m h l =
    let e : 5 + (m - 5) ≡ m = omega arith in
    subst (λ (x : ℕ). IsTrue (is_code_length (2 ^ x))) e (legal_power (m - 5) (omega arith))

-- the length of the mother code is one of the five
pub length_legal : (k e : ℕ) → IsTrue (is_code_length (length_of k e))
unfolding length_of
length_legal k e =
    let least = min (exponent_of k e (least_power e)) (least_power (8 * k)) in
    legal_exponent (max (min least 9) 5) (le-max_right (min least 9) 5) (max-le (min-le_right least 9) (omega arith))
