-- Checks in order, and the first that fails: for faults of any kind, and for those of settings with their places.
use Rattle.std.specs.Prelude.{ℕ, Bool, List, [], ◌∷◌, ◌++◌, length, cond, Option, Some, None, Result, Ok, Err}
use Rattle.rrc_settings.specs.declared.words.Key.{Key}
use Rattle.rrc_settings.specs.declared.place.Step.{Step}
use Rattle.rrc_settings.specs.declared.place.Step.TheVariants as steps
use Rattle.rrc_settings.specs.declared.place.Reason.{Reason}
use Rattle.rrc_settings.specs.declared.place.SettingsFault.{SettingsFault}

-- the fault unless the test holds
unfoldable pub unless : {F : Type 0} → F → Bool → Option F
unless fault test = cond test None (Some fault)

-- the first fault that checks in order find
abbrev pub first_of : {F : Type 0} → List (Option F) → Option F
first_of [] = None
first_of (None ∷ rest) = first_of rest
first_of (Some fault ∷ rest) = Some fault

-- what a function that answers a fault has found
abbrev pub found_by : {T F : Type 0} → Result T F → Option F
found_by (Ok x) = None
found_by (Err fault) = Some fault

-- what a check of settings finds: a fault or none
abbrev pub Finding : Type 0
Finding = Option SettingsFault

-- the steps to a value, outermost first
abbrev pub Steps : Type 0
Steps = List Step

-- the value of a key in the object at a place
infixl 7 ◌▸◌
abbrev pub ◌▸◌ : Steps → Key → Steps
at ▸ key = at ++ steps.Key key ∷ []

-- an element of the list at a place
abbrev pub element : Steps → ℕ → Steps
element at n = at ++ steps.Index n ∷ []

-- a fault with its place and its reason
abbrev pub fault_at : Steps → Reason → SettingsFault
fault_at at reason = record { place = record { steps = record { items = at } }; reason = reason }

-- the first fault of the later elements of a list, each judged with the elements before it
abbrev pub first_in : {A : Type 0} → (List A → Steps → A → Finding) → Steps → List A → List A → Finding
first_in judge at earlier [] = None
first_in judge at earlier (x ∷ later) =
    first_of (judge earlier (element at (length earlier)) x ∷ first_in judge at (earlier ++ x ∷ []) later ∷ [])

-- the first fault of a list's elements, each judged with the elements before it
abbrev pub each_after : {A : Type 0} → (List A → Steps → A → Finding) → Steps → List A → Finding
each_after judge at xs = first_in judge at [] xs

-- the first fault of a list's elements, each judged alone
abbrev pub each : {A : Type 0} → (Steps → A → Finding) → Steps → List A → Finding
each judge at xs = first_in (λ earlier. judge) at [] xs

-- what is found in a value, where there is one
abbrev pub if_given : {T : Type 0} → (Steps → T → Finding) → Steps → Option T → Finding
if_given judge at None = None
if_given judge at (Some x) = judge at x
