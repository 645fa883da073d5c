-- The block of each watch that carries payloads can be coded.
use Rattle.std.proofs.Common.{◌≡◌, ℕ, ◌+◌, ◌*◌, ◌≤◌, true, inl, inr, List, [], ◌∷◌, sym, subst, arith}
use Rattle.std.specs.Prelude.{nat_eq}
use Rattle.std.proofs.lemmas.Bool.{or_cases, eqb-true}
use Rattle.polar_sets.specs.Enough.{Enough}
use Rattle.polar_sets.proofs.CodableBlocks.{enough_108, enough_216, enough_432, enough_864, enough_1728}
use Rattle.monitor_plan.specs.declared.watch.Watch.{Watch}
use Rattle.monitor_plan.specs.Watch.{IsCarrying}
use Rattle.rrc_settings.specs.AggregationLevels.{is_level}
use Rattle.rrc_settings.specs.Numbers.{is_one_of}

-- a number of a list is its first or one of the others
picked : (P : ℕ → Type 0) (m : ℕ) (ms : List ℕ) (n : ℕ) → is_one_of (m ∷ ms) n ≡ true → P m → (is_one_of ms n ≡ true → P n) → P n
picked P m ms n h first others =
    elim (or_cases (nat_eq n m) (is_one_of ms n) h) as (λ _. P n) [
      | inl e ↦ subst P (sym (eqb-true n m e)) first
      | inr e ↦ others e
    ]

none_picked : (P : ℕ → Type 0) (n : ℕ) → is_one_of [] n ≡ true → P n
none_picked P n h = absurd (cc)

-- the block of a watch that carries payloads can be coded
pub enough_at : (size level : ℕ) → 12 ≤ size → size ≤ 128 → size + 24 ≤ 108 * level → is_level level ≡ true
    → Enough (size + 24) (108 * level)
enough_at size level h l room is =
    let k : ℕ = size + 24 in
    let least : 36 ≤ k = omega (arith, h) in
    let most : k ≤ 152 = omega (arith, l) in
    let P : ℕ → Type 0 = λ n. k ≤ 108 * n → Enough k (108 * n) in
    picked P 1 (2 ∷ 4 ∷ 8 ∷ 16 ∷ []) level is (λ fits. enough_108 k least fits) (λ a.
    picked P 2 (4 ∷ 8 ∷ 16 ∷ []) level a (λ fits. enough_216 k least most) (λ b.
    picked P 4 (8 ∷ 16 ∷ []) level b (λ fits. enough_432 k least most) (λ c.
    picked P 8 (16 ∷ []) level c (λ fits. enough_864 k least most) (λ d.
    picked P 16 [] level d (λ fits. enough_1728 k least most) (none_picked P level))))) room

-- the same, where size and level are given as other numbers
pub enough_by : (w : Watch) (size level : ℕ) → IsCarrying w → size ≡ w.size → level ≡ w.level → Enough (size + 24) (108 * level)
enough_by w size level carries e f =
    let P : ℕ → Type 0 = λ n. Enough (n + 24) (108 * level) in
    let Q : ℕ → Type 0 = λ n. Enough (w.size + 24) (108 * n) in
    subst P (sym e) (subst Q (sym f) (enough_at w.size w.level carries.shortest carries.longest carries.room carries.level))
