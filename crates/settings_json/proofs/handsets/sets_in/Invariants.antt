use Rattle.std.proofs.Common.{◌≡◌, map, take, drop}
use Rattle.serde_json.specs.View.{view}
use Rattle.json_form.specs.Kinds.{judge_each, first_from}
use Rattle.rrc_settings.specs.Naming.{names}
use Rattle.settings_json.specs.Shapes.{search_set}
use Rattle.settings_json.specs.Values.{set_value}
use Rattle.settings_json.proofs.handsets.sets_in.Given as goal

-- what the whole list finds is found by the elements which are left, and the earlier ones are read
abbrev pub invariant-loop-index : goal.invariant-loop-index
invariant-loop-index l = record {
  rest : judge_each names search_set l.at (map view l.values)
      ≡ first_from (λ n. search_set (names.element l.at n)) l.index (drop l.index (map view l.values));
  done : l.sets.items ≡ take l.index (map set_value (map view l.values));
}
