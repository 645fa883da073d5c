-- What the checks of a list say of each element, by its place.
use Rattle.std.proofs.Common.{◌≡◌, ℕ, zero, suc, ◌<◌, ◌≤◌, Bool, true, false, inl, inr, List, [], ◌∷◌, ◌++◌, length, take, get_or}
use Rattle.std.proofs.Common.{None, sym, ◌∙◌, ap, subst, arith}
use Rattle.std.specs.List.{list_any}
use Rattle.std.proofs.lemmas.Bool.{cases_order}
use Rattle.std.proofs.lemmas.List.{append-nil, append_assoc, length-take-le, get_or-take}
use Rattle.std.proofs.lemmas.List.Folds.{list_any_at}
use Rattle.rrc_settings.specs.Faults.{Steps, Finding, element, first_in, each}
use Rattle.rrc_settings.specs.Numbers.{is_from_to}
use Rattle.rrc_settings.specs.Table.{in_range, list_ranges}
use Rattle.rrc_settings.specs.declared.words.Key.{Key}
use Rattle.rrc_settings.specs.Faults.{◌▸◌}
use Rattle.rrc_settings.proofs.NoFault.{two_none}
use Rattle.rrc_settings.proofs.ByKey.{range_from_to}

-- where no fault is found in a list's elements, none is found in the one at a place, judged with those before it
pub first_in_at : {A : Type 0} (judge : List A → Steps → A → Finding) (at : Steps) (earlier xs : List A)
    → first_in judge at earlier xs ≡ None → (k : ℕ) (d : A) → k < length xs
    → (there : Steps) × (judge (earlier ++ take k xs) there (get_or xs k d) ≡ None)
first_in_at judge at earlier [] e k d l = absurd (omega arith)
first_in_at judge at earlier (x ∷ xs) e zero d l =
    let here = element at (length earlier) in
    let (none, later) = two_none (judge earlier here x) (first_in judge at (earlier ++ x ∷ []) xs) e in
    (here, subst (λ ys. judge ys here x ≡ None) (sym (append-nil earlier)) none)
first_in_at judge at earlier (x ∷ xs) e (suc k) d l =
    let here = element at (length earlier) in
    let (none, later) = two_none (judge earlier here x) (first_in judge at (earlier ++ x ∷ []) xs) e in
    let (there, found) = first_in_at judge at (earlier ++ x ∷ []) xs later k d (omega arith) in
    (there, subst (λ ys. judge ys there (get_or xs k d) ≡ None) (append_assoc earlier (x ∷ []) (take k xs)) found)

-- the same for elements that are judged alone
pub each_at : {A : Type 0} (judge : Steps → A → Finding) (at : Steps) (xs : List A) → each judge at xs ≡ None
    → (k : ℕ) (d : A) → k < length xs → (there : Steps) × (judge there (get_or xs k d) ≡ None)
each_at judge at xs e k d l = first_in_at (λ earlier. judge) at [] xs e k d l

-- a list in which no fault is found has so many elements, and none is found in them
pub list_parts : {A : Type 0} (key : Key) (low high : ℕ) (judge : Steps → A → Finding) (at : Steps) (xs : List A)
    → list_ranges key low high judge at xs ≡ None → ((low ≤ length xs) × (length xs ≤ high)) × (each judge (at ▸ key) xs ≡ None)
list_parts key low high judge at xs e =
    let (count, elements) = two_none (in_range at key (is_from_to low high) (length xs)) (each judge (at ▸ key) xs) e in
    (range_from_to at key low high (length xs) count, elements)

-- where no element is the same as one before it, no two at different places are
pub apart : {A : Type 0} (same : A → A → Bool) (xs : List A) (d : A)
    → ((k : ℕ) → k < length xs → list_any (λ e. same e (get_or xs k d)) (take k xs) ≡ false)
    → (i j : ℕ) → i < j → j < length xs → same (get_or xs i d) (get_or xs j d) ≡ true → ⊥
apart {A = A} same xs d none i j before l is =
    let test = λ (e : A). same e (get_or xs j d) in
    let here : get_or (take j xs) i d ≡ get_or xs i d = get_or-take j xs i d before in
    let within : i < length (take j xs) = let n = length-take-le j xs (omega (arith, l)) in omega (arith, n, before) in
    let some : list_any test (take j xs) ≡ true = list_any_at test (take j xs) i d within (ap test here ∙ is) in
    let both : true ≡ false = sym some ∙ none j l in
    absurd (cc)

-- where a test holds of equal marks and of no element with one before it, each mark stands at one place alone
pub one_place : {A B : Type 0} (mark : A → B) (same : B → B → Bool) → ((b : B) → same b b ≡ true) → (xs : List A) (d : A)
    → ((k : ℕ) → k < length xs → list_any (λ e. same (mark e) (mark (get_or xs k d))) (take k xs) ≡ false)
    → (i j : ℕ) → i < length xs → j < length xs → mark (get_or xs i d) ≡ mark (get_or xs j d) → i ≡ j
one_place {A = A} mark same reflexive xs d none i j l m e =
    let marked = λ (a b : A). same (mark a) (mark b) in
    elim (cases_order i j) [
      | inl is ↦ is
      | inr (inl less) ↦ absurd (apart marked xs d none i j less m
          (ap (λ b. same (mark (get_or xs i d)) b) (sym e) ∙ reflexive (mark (get_or xs i d))))
      | inr (inr more) ↦ absurd (apart marked xs d none j i more l
          (ap (λ b. same (mark (get_or xs j d)) b) e ∙ reflexive (mark (get_or xs j d))))
    ]
