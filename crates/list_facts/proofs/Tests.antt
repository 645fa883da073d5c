-- Facts on tests that std does not have.
use Rattle.std.proofs.Common.{◌≡◌, ◌≢◌, ℕ, ◌+◌, ◌<◌, Bool, true, false, ◌&&◌, ◌||◌, get_or, refl, sym, ◌∙◌, ap, inl, inr, arith}
use Rattle.std.proofs.Common.{List, [], ◌∷◌, Option, Some, None, cond, find}
use Rattle.std.specs.Prelude.{◌==◌}
use Rattle.std.proofs.lemmas.Option.{none-some, same_Some}
use Rattle.std.specs.List.{list_any, range_with_len}
use Rattle.std.proofs.lemmas.Bool.Decides.{eqb_tells}
use Rattle.std.proofs.lemmas.List.Folds.{list_any_at}
use Rattle.std.proofs.lemmas.List.FromFn.{length-range_with_len, get_or-range_with_len}

-- a test and one that always passes
pub and_true : (a : Bool) → (a && true) ≡ a
and_true true = refl
and_true false = refl

-- a test and one that never passes
pub and_false : (a : Bool) → (a && false) ≡ false
and_false true = refl
and_false false = refl

-- a test or one that always passes
pub or_true : (a : Bool) → (a || true) ≡ true
or_true true = refl
or_true false = refl

-- a test or one that never passes
pub or_false : (a : Bool) → (a || false) ≡ a
or_false true = refl
or_false false = refl

-- either of two tests, in either order
pub or_turned : (a b : Bool) → (a || b) ≡ (b || a)
or_turned true true = refl
or_turned true false = refl
or_turned false true = refl
or_turned false false = refl

-- either of three tests, grouped in either way
pub or_grouped : (a b c : Bool) → (a || b || c) ≡ (a || (b || c))
or_grouped true b c = refl
or_grouped false b c = refl

-- all of three tests, grouped in either way
pub and_grouped : (a b c : Bool) → (a && b && c) ≡ (a && (b && c))
and_grouped true b c = refl
and_grouped false b c = refl

-- a test adds nothing to one that passes wherever it does
pub or_into : (a b : Bool) → (a ≡ true → b ≡ true) → (a || b) ≡ b
or_into true b h = sym (h refl)
or_into false b h = refl

-- where two tests do not both pass and the first does, the second doesn't
pub not_both : (a b : Bool) → (a && b) ≡ false → a ≡ true → b ≡ false
not_both true b h e = h
not_both false b h e = absurd (cc)

-- a test doesn't pass and fail
pub true_not_false : (b : Bool) → b ≡ true → b ≡ false → ⊥
true_not_false true h e = cc
true_not_false false h e = cc

-- different numbers are not equal as a test
pub differs : (a b : ℕ) → a ≢ b → (a == b) ≡ false
differs a b h = elim (eqb_tells a b) [ inl e ↦ absurd (h e.1) | inr e ↦ e.0 ]

none_passes_case : (p : ℕ → Bool) (n i : ℕ) (b : Bool) → list_any p (range_with_len 0 n) ≡ false → i < n → p i ≡ b → b ≡ false
none_passes_case p n i false h l e = refl
none_passes_case p n i true h l e =
    let at : get_or (range_with_len 0 n) i 0 ≡ i = get_or-range_with_len 0 n i 0 l ∙ (let z : 0 + i ≡ i = omega arith in z) in
    let some : list_any p (range_with_len 0 n) ≡ true =
    list_any_at p (range_with_len 0 n) i 0 (let z = length-range_with_len 0 n in omega (arith, z, l)) (ap p at ∙ e) in
    sym some ∙ h

-- a test that no number of a range passes
pub none_passes : (p : ℕ → Bool) (n : ℕ) → list_any p (range_with_len 0 n) ≡ false → (i : ℕ) → i < n → p i ≡ false
none_passes p n h i l = none_passes_case p n i (p i) h l refl

found_case : {A : Type 0} (test : A → Bool) (b : Bool) (x a : A) (xs : List A) → test x ≡ b
    → (find test xs ≡ Some a → test a ≡ true) → cond b (Some x) (find test xs) ≡ Some a → test a ≡ true
found_case test true x a xs h later e = ap test (sym (same_Some x a e)) ∙ h
found_case test false x a xs h later e = later e

-- what is found in a list passes the test
pub found_passes : {A : Type 0} (test : A → Bool) (xs : List A) (a : A) → find test xs ≡ Some a → test a ≡ true
found_passes test [] a e = absurd (none-some a e)
found_passes test (x ∷ xs) a e = found_case test (test x) x a xs refl (found_passes test xs a) e
