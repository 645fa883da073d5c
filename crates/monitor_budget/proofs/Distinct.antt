-- Different elements of a list, and how many there are.
use Rattle.std.proofs.Common.{◌≡◌, ℕ, ◌<◌, ◌≤◌, inl, inr, Bool, true, false, ◌||◌, List, [], ◌∷◌, ◌++◌, Decides, refl}
use Rattle.std.proofs.Common.{sym, ◌∙◌, ap, arith}
use Rattle.std.specs.List.{AllByRecursion, IsDistinct, list_any}
use Rattle.std.specs.Set.{is_member, distinct_count}
use Rattle.std.proofs.lemmas.List.Folds.{list_any-append}
use Rattle.std.proofs.lemmas.Bool.{false_from_ne_true, or_cases, or_left, or_right}
use Rattle.std.proofs.lemmas.Map.Keys.{IsDistinct-cons, IsDistinct-from_apart, IsDistinct-push}
use Rattle.std.proofs.lemmas.Map.Made.{length-from_keys, length-le_from_is_member}
use Rattle.rrc_settings.specs.Equality.{equivalence_from_decides}
use Rattle.list_facts.proofs.Members.{IsIn}
use Rattle.list_facts.proofs.Rising.{Rising}
use Rattle.list_facts.proofs.Tests.{or_false, or_into, or_turned}

-- a list of the different elements
pub record Listed {K : Type 0} (E : K → K → Bool) (xs : List K) : Type 0 where
  pub ns : List K
  pub distinct : IsDistinct E ns
  pub members : (q : K) → is_member E ns q ≡ is_member E xs q

listed_cases : {K : Type 0} (E : K → K → Bool) (decides : (a b : K) → Decides (E a b) (a ≡ b)) (x : K) (xs : List K)
    (l : Listed E xs) (b : Bool)
    → is_member E l.ns x ≡ b → Listed E (x ∷ xs)
listed_cases E decides x xs l true e = record {
  ns = l.ns;
  distinct = l.distinct;
  members = λ q. l.members q ∙ sym (or_into (E q x) (is_member E xs q)
      (λ h. ap (λ k. is_member E xs k) ((decides q x).0 h) ∙ (sym (l.members x) ∙ e)));
}
listed_cases E decides x xs l false e = record {
  ns = l.ns ++ x ∷ [];
  distinct = IsDistinct-push (equivalence_from_decides decides) l.ns x l.distinct e;
  members = λ q. list_any-append (E q) l.ns (x ∷ []) ∙ ap (λ b. is_member E l.ns q || b) (or_false (E q x))
      ∙ ap (λ b. b || E q x) (l.members q) ∙ or_turned (is_member E xs q) (E q x);
}

-- each list has such a list
pub listed : {K : Type 0} (E : K → K → Bool) (decides : (a b : K) → Decides (E a b) (a ≡ b)) (xs : List K) → Listed E xs
listed E decides [] =
    record { ns = []; distinct = IsDistinct-from_apart E [] (λ i j d h l. absurd (omega arith)); members = λ q. refl }
listed E decides (x ∷ xs) = listed_cases E decides x xs (listed E decides xs) (is_member E (listed E decides xs).ns x) refl

-- a list has at least as many as one of its fronts
pub distinct_count_front : {K : Type 0} (E : K → K → Bool) (decides : (a b : K) → Decides (E a b) (a ≡ b)) (xs ys : List K)
    → distinct_count E xs ≤ distinct_count E (xs ++ ys)
distinct_count_front E decides xs ys =
    let laws = equivalence_from_decides decides in
    let a = listed E decides xs in
    let b = listed E decides (xs ++ ys) in
    let one = length-from_keys laws a.ns xs a.distinct a.members in
    let all = length-from_keys laws b.ns (xs ++ ys) b.distinct b.members in
    let below = length-le_from_is_member laws a.ns b.ns a.distinct (λ q h.
    b.members q ∙ list_any-append (E q) xs ys ∙ ap (λ c. c || is_member E ys q) (sym (a.members q) ∙ h)) in
    omega (arith, one, all, below)

-- two tests that agree
pub list_any_agree : {K : Type 0} (p q : K → Bool) (xs : List K) → ((x : K) → p x ≡ q x) → list_any p xs ≡ list_any q xs
list_any_agree p q [] h = refl
list_any_agree p q (x ∷ xs) h = ap (λ b. b || list_any p xs) (h x) ∙ ap (λ b. q x || b) (list_any_agree p q xs h)

-- an element that passes the test of being in a list is in it
pub member_in : {K : Type 0} (E : K → K → Bool) (decides : (a b : K) → Decides (E a b) (a ≡ b)) (q : K) (xs : List K)
    → is_member E xs q ≡ true → IsIn q xs
member_in E decides q [] h = absurd (cc)
member_in E decides q (x ∷ xs) h =
    elim (or_cases (E q x) (is_member E xs q) h) as (λ _. IsIn q (x ∷ xs)) [
      | inl e ↦ inl ((decides q x).0 e)
      | inr e ↦ inr (member_in E decides q xs e)
    ]

-- and one in it passes
pub in_member : {K : Type 0} (E : K → K → Bool) (decides : (a b : K) → Decides (E a b) (a ≡ b)) (q : K) (xs : List K)
    → IsIn q xs → is_member E xs q ≡ true
in_member E decides q [] h = absurd h
in_member E decides q (x ∷ xs) (inl e) = or_left (E q x) (is_member E xs q) ((decides q x).1 e)
in_member E decides q (x ∷ xs) (inr h) = or_right (E q x) (is_member E xs q) (in_member E decides q xs h)

all_apart : {K : Type 0} (E : K → K → Bool) (decides : (a b : K) → Decides (E a b) (a ≡ b)) (key : K → ℕ) (x : K) (xs : List K)
    → ((y : K) → IsIn y xs → key x < key y) → AllByRecursion (λ y. E x y ≡ false) xs
all_apart E decides key x [] h = tt
all_apart E decides key x (y ∷ ys) h = (
  false_from_ne_true (E x y) (λ e.
      let same = ap key ((decides x y).0 e) in let l = h y (inl refl) in
      omega (arith, same, l)),
  all_apart E decides key x ys (λ z i. h z (inr i)),
)

-- elements whose keys rise are different
pub rising_distinct : {K : Type 0} (E : K → K → Bool) (decides : (a b : K) → Decides (E a b) (a ≡ b)) (key : K → ℕ) (xs : List K)
    → Rising (λ a b. key a < key b) xs → IsDistinct E xs
rising_distinct E decides key [] r = IsDistinct-from_apart E [] (λ i j d k l. absurd (omega arith))
rising_distinct E decides key (x ∷ xs) (first, later) =
    IsDistinct-cons E x xs (all_apart E decides key x xs first) (rising_distinct E decides key xs later)
