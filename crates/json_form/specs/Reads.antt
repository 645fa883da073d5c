-- What a reader answers: the first fault of a judgement, or a value where there is none.
use Rattle.std.specs.Prelude.{◌≡◌, List, Option, None, Some, Result, Ok, Err, Vec}
use Rattle.std.specs.declared.alloc.Global.{Global}
use Rattle.arrayvec.specs.ArrayVec.{ArrayVec}
use Rattle.json_form.specs.declared.error.JsonError.{JsonError}
use Rattle.json_form.specs.declared.error.JsonError.TheVariants.{Fault, NoMemory}

-- the fault that is found, or the value where none is
abbrev pub Reads : {T F : Type 0} → Option F → T → Result T F → Type 0
Reads finding value (Ok x) = (finding ≡ None) × (x ≡ value)
Reads finding value (Err fault) = finding ≡ Some fault

-- the fault that is found, or a vector of these elements where none is
abbrev pub ReadsList : {T F : Type 0} → Option F → List T → Result (ArrayVec T) F → Type 0
ReadsList finding values (Ok xs) = (finding ≡ None) × (xs.items ≡ values)
ReadsList finding values (Err fault) = finding ≡ Some fault

-- the fault that is found, or the value where none is; memory may be wanting instead
abbrev pub Gives : {T F : Type 0} → Option F → T → Result T (JsonError F) → Type 0
Gives finding value (Ok x) = (finding ≡ None) × (x ≡ value)
Gives finding value (Err (Fault fault)) = finding ≡ Some fault
Gives finding value (Err NoMemory) = Unit {0}

-- the same for a vector of these elements
abbrev pub GivesList : {T F : Type 0} → Option F → List T → Result (Vec T Global) (JsonError F) → Type 0
GivesList finding values (Ok xs) = (finding ≡ None) × (xs.items ≡ values)
GivesList finding values (Err (Fault fault)) = finding ≡ Some fault
GivesList finding values (Err NoMemory) = Unit {0}
