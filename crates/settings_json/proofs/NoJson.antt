-- The first fault is that the bytes are no JSON exactly where they are none.
use Rattle.std.proofs.Common.{◌≡◌, ℕ, List, [], ap}
use Rattle.std.specs.Prelude.{Some}
use Rattle.rrc_settings.specs.declared.place.Reason.TheVariants.{NotJson}
use Rattle.rrc_settings.specs.declared.place.SettingsFault.{SettingsFault}
use Rattle.rrc_settings.specs.Faults.{Steps, fault_at}
use Rattle.rrc_settings.specs.Legal.{first_fault}
use Rattle.rrc_settings.specs.Naming.{whole}
use Rattle.serde_json.specs.Data.{Data}
use Rattle.settings_json.specs.First.{first_fault_in, first_fault_of}
use Rattle.settings_json.specs.NoJson.{NotJsonExactly, NotJsonOfTheWhole}
use Rattle.json_form.specs.Texts.{IsNoJson}
use Rattle.settings_json.specs.Values.{raw_value}
use Rattle.settings_json.proofs.OtherConflicts as conflicts
use Rattle.settings_json.proofs.OtherFaults.{IsOther}
use Rattle.settings_json.proofs.OtherRanges as ranges
use Rattle.json_form.proofs.OtherReasons.{other_first_of_two, other_found}
use Rattle.settings_json.proofs.OtherShapes as shapes
use Rattle.json_form.proofs.Readings.{found_of_no_json, no_json_where}

-- no check of settings finds it
cell_judges : (d : Data) → IsOther (first_fault (raw_value d))
unfolding first_fault
cell_judges d = other_first_of_two _ _ (ranges.cell_judges (raw_value d)) (conflicts.cell_judges (raw_value d))

-- no check of a value finds it
value_judges : (d : Data) → IsOther (first_fault_of d)
unfolding first_fault_of
value_judges d = other_first_of_two _ _ (shapes.cell_judges whole d) (cell_judges d)

-- so it is found in no value
pub never : (at : Steps) (d : Data) → first_fault_of d ≡ Some (fault_at at NotJson) → ⊥
never at d e = other_found (first_fault_of d) (fault_at at NotJson) (value_judges d) e

-- the bytes are no JSON where a fault of this reason is found, at any place
pub no_json : (bytes : List ℕ) (at : Steps) → first_fault_in bytes ≡ Some (fault_at at NotJson) → IsNoJson bytes
no_json bytes at e = no_json_where (fault_at [] NotJson) (fault_at at NotJson) first_fault_of bytes (never at) e

-- exactly there
pub not_json_exactly : NotJsonExactly
not_json_exactly bytes = (no_json bytes [], found_of_no_json (fault_at [] NotJson) first_fault_of bytes)

-- at the whole
pub not_json_of_the_whole : NotJsonOfTheWhole
not_json_of_the_whole bytes at e =
    let whole = found_of_no_json (fault_at [] NotJson) first_fault_of bytes (no_json bytes at e) in
    let same : fault_at at NotJson ≡ fault_at [] NotJson = cc in
    ap (λ (fault : SettingsFault). fault.place.steps.items) same
