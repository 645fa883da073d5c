-- Checks that find no fault.
use Rattle.std.proofs.Common.{◌≡◌, Bool, true, false, List, [], ◌∷◌, Option, None, Some, refl}
use Rattle.rrc_settings.specs.Faults.{unless, first_of}

-- where checks in order find none, the first finds none, and neither do the later ones
pub first_none : {F : Type 0} (found : Option F) (later : List (Option F)) → first_of (found ∷ later) ≡ None
    → (found ≡ None) × (first_of later ≡ None)
first_none None later e = (refl, e)
first_none (Some fault) later e = cc

-- where two checks in order find none, each of them finds none
pub two_none : {F : Type 0} (found next : Option F) → first_of (found ∷ next ∷ []) ≡ None → (found ≡ None) × (next ≡ None)
two_none found next e =
    let (none, later) = first_none found (next ∷ []) e in
    (none, (first_none next [] later).0)

-- a test in which no fault is found holds
pub unless_none : {F : Type 0} (fault : F) (test : Bool) → unless fault test ≡ None → test ≡ true
unfolding unless
unless_none fault true e = refl
unless_none fault false e = cc
