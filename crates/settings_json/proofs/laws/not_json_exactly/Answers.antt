use Rattle.settings_json.proofs.NoJson as laws
use Rattle.settings_json.proofs.laws.not_json_exactly.Goals as goal

pub returns : goal.returns
returns c = laws.not_json_exactly
