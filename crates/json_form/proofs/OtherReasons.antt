-- Checks that find something else than that a text is no JSON.
use Rattle.std.proofs.Common.{◌≡◌, ℕ, ◌+◌, List, [], ◌∷◌, map, Bool, true, false, subst}
use Rattle.std.specs.Prelude.{Option, None, Some}
use Rattle.rrc_settings.specs.declared.place.Reason.{Reason}
use Rattle.rrc_settings.specs.declared.place.Reason.TheVariants.{NotJson}
use Rattle.rrc_settings.specs.Faults.{unless, first_of}
use Rattle.json_form.specs.Kinds.{first_from}

-- a reason that a value may have
abbrev pub IsOtherReason : Reason → Type 0
IsOtherReason NotJson = ⊥
IsOtherReason _ = Unit {0}

-- the fault, where there is one, has such a reason
abbrev pub HasOther : {F : Type 0} → (F → Reason) → Option F → Type 0
HasOther reason None = Unit {0}
HasOther reason (Some fault) = IsOtherReason (reason fault)

-- a finding that is so
pub record IsOther {F : Type 0} (reason : F → Reason) (found : Option F) : Type 0 where
  pub has : HasOther reason found

-- each of these findings is so
abbrev pub AllOther : {F : Type 0} → (F → Reason) → List (Option F) → Type 0
AllOther reason [] = Unit {0}
AllOther reason (f ∷ fs) = IsOther reason f × AllOther reason fs

-- no fault
pub other_none : {F : Type 0} {reason : F → Reason} → IsOther reason None
other_none = record { has = tt }

-- a test with such a reason
pub other_unless : {F : Type 0} {reason : F → Reason} (fault : F) (test : Bool) → IsOtherReason (reason fault)
    → IsOther reason (unless fault test)
unfolding unless
other_unless fault true h = record { has = tt }
other_unless fault false h = record { has = h }

-- the first of several
pub other_first_of : {F : Type 0} {reason : F → Reason} (fs : List (Option F)) → AllOther reason fs → IsOther reason (first_of fs)
other_first_of [] h = record { has = tt }
other_first_of (None ∷ fs) h = other_first_of fs h.1
other_first_of (Some fault ∷ fs) h = h.0

-- the first of a check and the later ones
pub other_next : {F : Type 0} {reason : F → Reason} (f : Option F) (fs : List (Option F)) → IsOther reason f
    → IsOther reason (first_of fs) → IsOther reason (first_of (f ∷ fs))
other_next None fs h later = later
other_next (Some fault) fs h later = h

-- the first of two
pub other_first_of_two : {F : Type 0} {reason : F → Reason} (f g : Option F) → IsOther reason f → IsOther reason g
    → IsOther reason (first_of (f ∷ g ∷ []))
other_first_of_two f g a b = other_first_of (f ∷ g ∷ []) (a, (b, tt))

-- what one check finds in each element
pub other_map : {A F : Type 0} {reason : F → Reason} (f : A → Option F) (xs : List A) → ((x : A) → IsOther reason (f x))
    → AllOther reason (map f xs)
other_map f [] h = tt
other_map f (x ∷ xs) h = (h x, other_map f xs h)

-- the elements of a list, each judged with its number
pub other_first_from : {A F : Type 0} {reason : F → Reason} (judge : ℕ → A → Option F) (n : ℕ) (xs : List A)
    → ((k : ℕ) (x : A) → IsOther reason (judge k x)) → IsOther reason (first_from judge n xs)
other_first_from judge n [] h = other_none
other_first_from judge n (x ∷ later) h = other_first_of_two _ _ (h n x) (other_first_from judge (n + 1) later h)

-- a fault that is found has such a reason
pub other_found : {F : Type 0} {reason : F → Reason} (found : Option F) (fault : F) → IsOther reason found
    → found ≡ Some fault → IsOtherReason (reason fault)
other_found {reason = reason} found fault h e = subst (λ f. HasOther reason f) e h.has
