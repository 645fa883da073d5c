use Rattle.std.proofs.Common.{[]}
use Rattle.rrc_settings.specs.declared.place.Reason.TheVariants.{NotJson}
use Rattle.rrc_settings.specs.Faults.{fault_at}
use Rattle.serde_json.specs.View.{view}
use Rattle.settings_json.specs.First.{first_fault_of}
use Rattle.settings_json.specs.Values.{raw_value}
use Rattle.settings_json.proofs.NoJson.{never}
use Rattle.json_form.proofs.Readings.{found_of_json, spelled_of_json, never_given}
use Rattle.settings_json.proofs.cells.read_settings.Goals as goal

pub returns-clause-first : goal.returns-clause-first
returns-clause-first c =
    let bytes = c.args.bytes.now in
    let d = view c.in_ok-value.value in
    let json = c.in_ok-value.ensures.json in
    rw (found_of_json (fault_at [] NotJson) first_fault_of bytes d json, spelled_of_json raw_value bytes d json) c.cell_of.ensures

pub returns-clause-not_json : goal.returns-clause-not_json
returns-clause-not_json c = λ at e.
    let d = view c.in_ok-value.value in
    absurd (never_given (first_fault_of d) _ (fault_at at NotJson) c.cell_of.result (never at d) c.cell_of.ensures e)
