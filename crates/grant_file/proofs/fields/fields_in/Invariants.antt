use Rattle.std.proofs.Common.{◌≡◌, ◌++◌}
use Rattle.serde_json.specs.View.{members_view}
use Rattle.grant_file.specs.Fields.{given_in, judge_members, words_in}
use Rattle.grant_file.proofs.fields.fields_in.Given as goal

-- what all members find is found by those which are left, and the earlier ones are read
abbrev pub invariant-loop-key : goal.invariant-loop-key
invariant-loop-key l = record {
  rest : judge_members l.at (members_view l.members.entries) ≡ judge_members l.at (members_view l.key-iterator);
  given : given_in (members_view l.members.entries) ≡ l.given.items ++ given_in (members_view l.key-iterator);
  words : words_in (members_view l.members.entries) ≡ l.words.items ++ words_in (members_view l.key-iterator);
}
