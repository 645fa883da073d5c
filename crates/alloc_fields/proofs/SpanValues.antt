-- Resource indication values tell the start and the length.
use Rattle.std.proofs.Common.{◌≡◌, ℕ, ◌+◌, ◌-◌, ◌*◌, ◌/◌, ◌%◌, ◌<◌, ◌≤◌, Bool, true, false, ◌&&◌, ◌⊎◌, inl, inr, cond}
use Rattle.std.proofs.Common.{nat_lt, nat_le, Option, Some, None, arith, refl, ap, sym, subst, ◌∙◌}
use Rattle.std.proofs.lemmas.Bool.{leb-true, leb-false, ltb-true, cases_Bool, and_parts}
use Rattle.std.proofs.lemmas.Nat.{div-mul-add, mod-mul-add}
use Rattle.alloc_fields.specs.Indication.{span_value, riv}

-- a span of which the value counts from the front
pub record IsShort (n start len value : ℕ) : Type 0 where
  pub some : 1 ≤ len
  pub within : start + len ≤ n
  pub short : len - 1 ≤ n / 2
  pub is : value ≡ n * (len - 1) + start

-- a span of which the value counts from both ends
pub record IsLong (n start len value : ℕ) : Type 0 where
  pub some : 1 ≤ len
  pub within : start + len ≤ n
  pub long : n / 2 < len - 1
  pub is : value ≡ n * (n - len + 1) + (n - 1 - start)

some_of : (b : Bool) (x y : ℕ) → cond b (Some x) None ≡ Some y → (b ≡ true) × (x ≡ y)
some_of true x y e = (refl, cc)
some_of false x y e = cc

-- a span's value is one of these
pub value_cases : (n start len value : ℕ) → riv n start len ≡ Some value → IsShort n start len value ⊎ IsLong n start len value
unfolding riv
value_cases n start len value e =
    let found = some_of (nat_lt 0 len && nat_le (start + len) n) (span_value n start len) value e in
    let parts = and_parts (nat_lt 0 len) (nat_le (start + len) n) found.0 in
    let some : 0 < len = ltb-true 0 len parts.0 in
    let within : start + len ≤ n = leb-true (start + len) n parts.1 in
    elim (cases_Bool (nat_le (len - 1) (n / 2))) [
      | inl does ↦ inl (record {
        some = some;
        within = within;
        short = leb-true (len - 1) (n / 2) does;
        is = sym found.1 ∙ ap (λ (b : Bool). cond b (n * (len - 1) + start) (n * (n - len + 1) + (n - 1 - start))) does;
      })
      | inr fails ↦ inr (record {
        some = some;
        within = within;
        long = leb-false (len - 1) (n / 2) fails;
        is = sym found.1 ∙ ap (λ (b : Bool). cond b (n * (len - 1) + start) (n * (n - len + 1) + (n - 1 - start))) fails;
      })
    ]

-- what the quotient and the rest of a short span's value are
pub record IsFrontOf (n start len quotient rest : ℕ) : Type 0 where
  pub quotient_is : quotient ≡ len - 1
  pub rest_is : rest ≡ start

-- and those of a long span's
pub record IsBackOf (n start len quotient rest : ℕ) : Type 0 where
  pub quotient_is : quotient ≡ n - len + 1
  pub rest_is : rest ≡ n - 1 - start

divided : (n a b value : ℕ) → b < n → value ≡ n * a + b → (value / n ≡ a) × (value % n ≡ b)
divided n a b value h e =
    let swap : value ≡ a * n + b = grind arith in
    let quotient : value / n ≡ a = ap (λ (v : ℕ). v / n) swap ∙ div-mul-add a n b h in
    (quotient, ap (λ (v : ℕ). v % n) swap ∙ mod-mul-add a n b h)

-- those of a short span's value are so
pub front_read : (n start len value : ℕ) → IsShort n start len value → IsFrontOf n start len (value / n) (value % n)
front_read n start len value h =
    let below : start < n = omega (arith, h.within, h.some) in
    let parts = divided n (len - 1) start value below h.is in
    record { quotient_is = parts.0; rest_is = parts.1 }

-- and those of a long one's
pub back_read : (n start len value : ℕ) → IsLong n start len value → IsBackOf n start len (value / n) (value % n)
back_read n start len value h =
    let below : n - 1 - start < n = omega (arith, h.within, h.some) in
    let parts = divided n (n - len + 1) (n - 1 - start) value below h.is in
    record { quotient_is = parts.0; rest_is = parts.1 }

-- the only span that may have a value: the quotient and the rest tell it
abbrev pub IsCandidate : ℕ → ℕ → ℕ → ℕ → ℕ → Type 0
IsCandidate n quotient rest start len =
    ((rest + quotient < n) × (start ≡ rest) × (len ≡ quotient + 1))
    ⊎ ((n ≤ rest + quotient) × (quotient ≤ n) × (start ≡ n - 1 - rest) × (len ≡ n - quotient + 1))

-- a span that has a value is its candidate
pub candidate_is : (n start len value : ℕ) → riv n start len ≡ Some value → IsCandidate n (value / n) (value % n) start len
candidate_is n start len value e =
    elim (value_cases n start len value e) [
      | inl short ↦ let r =
          front_read n start len value short in
          inl (
            omega (arith, r.quotient_is, r.rest_is, short.within, short.some),
            sym r.rest_is,
            omega
                (arith, r.quotient_is, short.some),
          )
      | inr long ↦ let r = back_read n start len value long in
          inr (
            omega (arith, r.quotient_is, r.rest_is, long.within, long.some, long.long),
            omega (arith, r.quotient_is, long.within, long.some, long.long),
            omega (arith, r.rest_is, long.within, long.some),
            omega (arith, r.quotient_is, long.within, long.some, long.long),
          )
    ]

-- no two spans have the same value
pub values_apart : (n start len other_start other_len value : ℕ) → riv n start len ≡ Some value
    → riv n other_start other_len ≡ Some value
    → (start ≡ other_start) × (len ≡ other_len)
values_apart n start len other_start other_len value e f =
    elim (candidate_is n start len value e) [
      | inl front ↦ elim (candidate_is n other_start other_len value f) [
        | inl also ↦ (front.1 ∙ sym also.1, front.2 ∙ sym also.2)
        | inr other ↦ absurd (omega (arith, front.0, other.0))
      ]
      | inr back ↦ elim (candidate_is n other_start other_len value f) [
        | inl other ↦ absurd (omega (arith, back.0, other.0))
        | inr also ↦ (back.2 ∙ sym also.2, back.3 ∙ sym also.3)
      ]
    ]

abbrev Pair : Type 0
Pair = Option (ℕ × ℕ)

some_pair : (a b x y : ℕ) → x ≡ a → y ≡ b → ◌≡◌ {A = Pair} (Some (a, b)) (Some (x, y))
some_pair a b x y e f =
    let first : ◌≡◌ {A = Pair} (Some (a, b)) (Some (x, b)) = ap (λ (z : ℕ). let p : ℕ × ℕ = (z, b) in Some p) (sym e) in
    let second : ◌≡◌ {A = Pair} (Some (x, b)) (Some (x, y)) = ap (λ (z : ℕ). let p : ℕ × ℕ = (x, z) in Some p) (sym f) in
    first ∙ second

-- a span whose quotient and rest do not reach the number of blocks
pub front_candidate : (n blocks start len value : ℕ) → blocks ≡ n → value % blocks + value / blocks < n
    → riv n start len ≡ Some value
    → ◌≡◌ {A = Pair} (Some (value % blocks, value / blocks + 1)) (Some (start, len))
front_candidate n blocks start len value same h e =
    let P : ℕ → Type 0 = λ b. value % b + value / b < n → ◌≡◌ {A = Pair} (Some (value % b, value / b + 1)) (Some (start, len)) in
    let at : P n = λ below. elim (candidate_is n start len value e) [
      | inl front ↦ some_pair (value % n) (value / n + 1) start len front.1 front.2
      | inr back ↦ absurd (omega (arith, below, back.0))
    ] in
    subst P (sym same) at h

-- one whose quotient and rest do
pub back_candidate : (n blocks start len value : ℕ) → blocks ≡ n → n ≤ value % blocks + value / blocks
    → riv n start len ≡ Some value
    → ◌≡◌ {A = Pair} (Some (n - 1 - value % blocks, n - value / blocks + 1)) (Some (start, len))
back_candidate n blocks start len value same h e =
    let P : ℕ → Type 0 = λ b. n ≤ value % b + value / b
    → ◌≡◌ {A = Pair} (Some (n - 1 - value % b, n - value / b + 1)) (Some (start, len)) in
    let at : P n = λ above. elim (candidate_is n start len value e) [
      | inl front ↦ absurd (omega (arith, above, front.0))
      | inr back ↦ some_pair (n - 1 - value % n) (n - value / n + 1) start len back.2 back.3
    ] in
    subst P (sym same) at h

-- no span has a quotient above the number of blocks
pub no_candidate : (n blocks start len value : ℕ) → blocks ≡ n → blocks < value / blocks → riv n start len ≡ Some value → ⊥
no_candidate n blocks start len value same h e =
    let P : ℕ → Type 0 = λ b. b < value / b → ⊥ in
    let at : P n = λ above. elim (candidate_is n start len value e) [
      | inl front ↦ omega (arith, above, front.0)
      | inr back ↦ omega (arith, above, back.1)
    ] in
    subst P (sym same) at h
