-- Which positions are free, by the places at which they are sent.
use Rattle.std.proofs.Common.{ℕ, ◌≡◌, ◌+◌, ◌-◌, ◌*◌, ◌<◌, ◌≤◌, Bool, true, false, not, ◌&&◌, ◌||◌, nat_lt, leb, inl, inr}
use Rattle.std.proofs.Common.{refl, ap, sym, ◌∙◌, arith, get_or}
use Rattle.std.specs.Prelude.{IsTrue, ◌==◌}
use Rattle.std.specs.List.{range_with_len}
use Rattle.std.proofs.lemmas.Bool.{cases_lt, eq-eqb, le-ltb, lt-ltb, ne_eqb}
use Rattle.std.proofs.lemmas.List.Folds.{list_any_at, list_any_none}
use Rattle.std.proofs.lemmas.List.FromFn.{get_or-range_with_len, length-range_with_len}
use Rattle.bits_core.specs.CodeLengths.{is_code_length}
use Rattle.rate_match.specs.SubblockOrder.{position_at}
use Rattle.rate_match.proofs.Places.{position_once}
use Rattle.rate_match.proofs.Sent.{matching_punctured, matching-repeated, matching_shortened}
use Rattle.polar_sets.specs.FrozenPlaces.{frozen_front, is_free, is_frozen, stands_within}

-- a position that is sent within some places
pub stands_here : (n from count m p : ℕ) → from ≤ m → m < from + count → position_at n m ≡ p → stands_within n from count p ≡ true
unfolding stands_within
stands_here n from count m p h l e =
    let long = length-range_with_len from count in
    list_any_at (λ x. position_at n x == p) (range_with_len from count) (m - from) 0 (omega arith)
    (eq-eqb (position_at n (get_or (range_with_len from count) (m - from) 0)) p
    (ap (position_at n) (get_or-range_with_len from count (m - from) 0 (omega arith) ∙ omega arith) ∙ e))

-- and one that is sent at a place that is none of them
pub stands_nowhere : (n from count m p : ℕ) → IsTrue (is_code_length n) → m < n → from + count ≤ n
    → (from ≤ m → m < from + count → ⊥) →
    position_at n m ≡ p → stands_within n from count p ≡ false
unfolding stands_within
stands_nowhere n from count m p h l w none e =
    let long = length-range_with_len from count in
    list_any_none (λ x. position_at n x == p) (range_with_len from count)
    (λ i d b.
    let x = get_or-range_with_len from count i d (omega arith) in
    ap (λ (y : ℕ). position_at n y == p) x
    ∙ ne_eqb (position_at n (from + i)) p
    (λ same. let once : from + i ≡ m = position_once n (from + i) m h (omega arith) l (same ∙ sym e) in none (omega arith)
    (omega arith)))

-- no position from the length of the word on is free
pub free_past : (n k e p : ℕ) → n ≤ p → is_free n k e p ≡ false
unfolding is_free
free_past n k e p h = rw (le-ltb p n h) refl

-- with repetition each position is free
pub free_repeated : (n k e p : ℕ) → p < n → n ≤ e → is_free n k e p ≡ true
unfolding is_free is_frozen
free_repeated n k e p h l = rw (lt-ltb p n h, matching-repeated n k e l) refl

-- with shortening those that are sent before the last places
pub free_shortened : (n k e m p : ℕ) → IsTrue (is_code_length n) → m < n → p < n → e < n → 7 * e < 16 * k → position_at n m ≡ p →
    is_free n k e p ≡ nat_lt m e
unfolding is_free is_frozen
free_shortened n k e m p h l b f g at =
    elim (cases_lt m e) [
      | inl s ↦
          rw (
            lt-ltb p n b,
            matching_shortened n k e f g,
            stands_nowhere n e (n - e) m p h l (omega arith)
                (λ x y. omega arith) at,
            lt-ltb m e s,
          ) refl
      | inr s ↦ rw (lt-ltb p n b, matching_shortened n k e f g, stands_here n e (n - e) m p s (omega arith) at, le-ltb m e s) refl
    ]

none_of : (a : Bool) → (true && not (a || true)) ≡ false
none_of true = refl
none_of false = refl

behind : (p front : ℕ) → (true && not (nat_lt p front || false)) ≡ leb front p
behind p front = grind arith

-- with puncturing none that is sent at the first places
pub free_punctured_not : (n k e m p : ℕ) → m < n - e → p < n → e < n → 16 * k ≤ 7 * e → position_at n m ≡ p
    → is_free n k e p ≡ false
unfolding is_free is_frozen
free_punctured_not n k e m p s b f g at =
    rw (lt-ltb p n b, matching_punctured n k e f g, stands_here n 0 (n - e) m p (omega arith) (omega arith) at)
    (none_of (nat_lt p (frozen_front n e)))

-- and of the others those behind the frozen front
pub free_punctured : (n k e m p : ℕ) → IsTrue (is_code_length n) → m < n → n - e ≤ m → p < n → e < n → 16 * k ≤ 7 * e
    → position_at n m ≡ p →
    is_free n k e p ≡ leb (frozen_front n e) p
unfolding is_free is_frozen
free_punctured n k e m p h l s b f g at =
    rw (lt-ltb p n b, matching_punctured n k e f g, stands_nowhere n 0 (n - e) m p h l (omega arith) (λ x y. omega arith) at)
    (behind p (frozen_front n e))
