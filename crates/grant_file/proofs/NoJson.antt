-- The first fault is that the bytes are no JSON exactly where they are none.
use Rattle.std.proofs.Common.{◌≡◌, ◌↔◌, ℕ, List}
use Rattle.std.specs.Prelude.{None, Some}
use Rattle.rrc_settings.specs.declared.place.Reason.TheVariants.{NotJson}
use Rattle.serde_json.specs.Data.{Data}
use Rattle.json_form.specs.Texts.{IsNoJson}
use Rattle.json_form.proofs.OtherReasons.{other_found}
use Rattle.json_form.proofs.Readings.{found_of_no_json, no_json_where}
use Rattle.grant_file.specs.declared.place.GrantPlace.{GrantPlace}
use Rattle.grant_file.specs.Faults.{fault_at, whole_at}
use Rattle.grant_file.specs.First.{first_fault_in}
use Rattle.grant_file.specs.Shapes.{judge_list}
use Rattle.grant_file.proofs.OtherFaults.{list_is_other}

-- it is found in no value
pub never : (mu : ℕ) (at : GrantPlace) (d : Data) → judge_list mu d ≡ Some (fault_at at NotJson) → ⊥
never mu at d e = other_found (judge_list mu d) (fault_at at NotJson) (list_is_other mu d) e

-- the bytes are no JSON where a fault of this reason is found, at any place
pub no_json : (mu : ℕ) (bytes : List ℕ) (at : GrantPlace) → first_fault_in mu bytes ≡ Some (fault_at at NotJson) → IsNoJson bytes
no_json mu bytes at e =
    no_json_where (fault_at (whole_at None) NotJson) (fault_at at NotJson) (judge_list mu) bytes (never mu at) e

-- exactly there
pub not_json_exactly : (mu : ℕ) (bytes : List ℕ)
    → (first_fault_in mu bytes ≡ Some (fault_at (whole_at None) NotJson)) ↔ IsNoJson bytes
not_json_exactly mu bytes =
    (no_json mu bytes (whole_at None), found_of_no_json (fault_at (whole_at None) NotJson) (judge_list mu) bytes)
