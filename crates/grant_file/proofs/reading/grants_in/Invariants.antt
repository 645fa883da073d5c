use Rattle.std.proofs.Common.{◌≡◌, All, length, map, take, drop}
use Rattle.std.specs.Prelude.{Some}
use Rattle.serde_json.specs.View.{view}
use Rattle.json_form.specs.Kinds.{judge_each, first_from}
use Rattle.grant_file.specs.Faults.{names, whole_at}
use Rattle.grant_file.specs.Lists.{IsReadGrant}
use Rattle.grant_file.specs.Shapes.{judge_grant}
use Rattle.grant_file.specs.Values.{grant_value}
use Rattle.grant_file.proofs.reading.grants_in.Given as goal

-- what the whole list finds is found by the elements which are left, and the earlier ones are read
abbrev pub invariant-loop-index : goal.invariant-loop-index
invariant-loop-index l = record {
  rest : judge_each names judge_grant l.at (map view l.values)
      ≡ first_from (λ n. judge_grant (whole_at (Some n))) l.index (drop l.index (map view l.values));
  count : length l.grants.items ≡ l.index;
  kept : All IsReadGrant l.grants.items;
  done : l.grants.items ≡ take l.index (map grant_value (map view l.values));
}
