use Rattle.rrc_settings.specs.declared.place.Reason.TheVariants.{NotJson}
use Rattle.serde_json.specs.View.{view}
use Rattle.json_form.proofs.Readings.{never_given}
use Rattle.grant_file.specs.Faults.{fault_at}
use Rattle.grant_file.specs.Shapes.{judge_list}
use Rattle.grant_file.proofs.NoJson.{never}
use Rattle.grant_file.proofs.reading.read_grants.Goals as goal

pub returns-clause-not_json : goal.returns-clause-not_json
returns-clause-not_json c = λ at e.
    let d = view c.in_ok-value.value in
    let mu = c.args.mu in
    absurd (never_given (judge_list mu d) _ (fault_at at NotJson) c.list_in.result (never mu at d) c.list_in.ensures.read e)
