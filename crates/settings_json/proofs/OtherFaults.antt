-- Checks of settings that find something else than that a text is no JSON.
use Rattle.std.proofs.Common.{List, [], ◌∷◌, ◌++◌, length}
use Rattle.std.specs.Prelude.{Option, None, Some}
use Rattle.rrc_settings.specs.declared.place.Reason.{Reason}
use Rattle.rrc_settings.specs.declared.place.SettingsFault.{SettingsFault}
use Rattle.rrc_settings.specs.Faults.{Steps, Finding, element, first_in, if_given}
use Rattle.json_form.proofs.OtherReasons as others
use Rattle.json_form.proofs.OtherReasons.{other_none, other_first_of_two}

-- the reason of a fault
abbrev pub reason_of : SettingsFault → Reason
reason_of fault = fault.reason

-- what is found is none that says so
abbrev pub IsOther : Finding → Type 0
IsOther found = others.IsOther reason_of found

-- the elements of a list, each judged with those before it
pub other_first_in : {A : Type 0} (judge : List A → Steps → A → Finding) (at : Steps) (earlier later : List A) →
    ((before : List A) (there : Steps) (x : A) → IsOther (judge before there x)) → IsOther (first_in judge at earlier later)
other_first_in judge at earlier [] h = other_none
other_first_in judge at earlier (x ∷ later) h =
    other_first_of_two _ _ (h earlier (element at (length earlier)) x) (other_first_in judge at (earlier ++ x ∷ []) later h)

-- a value that may be absent
pub other_if_given : {T : Type 0} (judge : Steps → T → Finding) (at : Steps) (x : Option T) → ((y : T) → IsOther (judge at y)) →
    IsOther (if_given judge at x)
other_if_given judge at None h = other_none
other_if_given judge at (Some x) h = h x
