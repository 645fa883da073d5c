-- The places that are left out by the ones of their positions: punctured ones downwards, shortened ones upwards.
use Rattle.std.proofs.Common.{ℕ, ◌≡◌, ◌+◌, ◌<◌, ◌≤◌, true, false, inl, inr, sym, ◌∙◌, arith}
use Rattle.std.specs.Prelude.{IsTrue}
use Rattle.std.proofs.lemmas.Bool.{cases_lt}
use Rattle.bits_core.specs.CodeLengths.{is_code_length}
use Rattle.rate_match.proofs.Places.{place_below, place_of, position_at-place_of}
use Rattle.polar_sets.specs.FrozenPlaces.{stands_within}
use Rattle.polar_sets.proofs.Frozen.{stands_nowhere}

-- a position stands within some places where its place is one of them
pub stands_place : (n from count p : ℕ) → IsTrue (is_code_length n) → p < n → from + count ≤ n
    → stands_within n from count p ≡ true →
    (from ≤ place_of n p) × (place_of n p < from + count)
stands_place n from count p h l w s =
    let outside = λ (none : from ≤ place_of n p → place_of n p < from + count → ⊥).
    stands_nowhere n from count (place_of n p) p h (place_below n p h l) w none (position_at-place_of n p h l) in
    let never = λ (none : from ≤ place_of n p → place_of n p < from + count → ⊥).
    (let e : true ≡ false = sym s ∙ outside none in let f : ⊥ = cc in f) in
    elim (cases_lt (place_of n p) from) [
      | inl a ↦ absurd (never (λ b c. omega arith))
      | inr a ↦ elim (cases_lt (place_of n p) (from + count)) [
        | inl b ↦ (a, b)
        | inr b ↦ absurd (never (λ c d. omega arith))
      ]
    ]
