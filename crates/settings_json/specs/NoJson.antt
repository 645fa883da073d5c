-- Where the first fault of bytes is that they are no JSON.
use Rattle.std.specs.Prelude.{◌≡◌, ◌↔◌, ℕ, List, [], Some}
use Rattle.rrc_settings.specs.declared.place.Reason.TheVariants.{NotJson}
use Rattle.rrc_settings.specs.Faults.{Steps, fault_at}
use Rattle.settings_json.specs.First.{first_fault_in}
use Rattle.json_form.specs.Texts.{IsNoJson}

-- it is so exactly where the bytes are no UTF-8, or have no reading as JSON
abbrev pub NotJsonExactly : Type 0
NotJsonExactly = (bytes : List ℕ) → (first_fault_in bytes ≡ Some (fault_at [] NotJson)) ↔ IsNoJson bytes

-- a fault of this reason stands at the whole
abbrev pub NotJsonOfTheWhole : Type 0
NotJsonOfTheWhole = (bytes : List ℕ) (at : Steps) → first_fault_in bytes ≡ Some (fault_at at NotJson) → at ≡ []
