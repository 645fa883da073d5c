-- No check of a list of grants finds that a text is no JSON.
use Rattle.std.proofs.Common.{ℕ, Bool, List, [], ◌∷◌}
use Rattle.std.specs.Prelude.{None}
use Rattle.rrc_settings.specs.declared.place.Reason.{Reason}
use Rattle.rrc_settings.specs.declared.place.Reason.TheVariants.{WrongKind, OutOfRange}
use Rattle.serde_json.specs.Data.{Data, Members, no_members, member}
use Rattle.json_form.specs.Kinds.{Entry, members_of, judge_whole, judge_number, judge_text, object_by}
use Rattle.json_form.specs.Kinds.{judge_list as judge_list_of}
use Rattle.json_form.proofs.OtherReasons.{IsOther, other_none, other_unless, other_first_of, other_first_of_two}
use Rattle.json_form.proofs.OtherKinds.{AllJudge, Judges, whole_judges, number_judges, text_judges, list_judges, object_by_judges}
use Rattle.grant_file.specs.declared.place.GrantFault.{GrantFault}
use Rattle.grant_file.specs.declared.place.GrantKey.{GrantKey}
use Rattle.grant_file.specs.declared.place.GrantPlace.{GrantPlace}
use Rattle.grant_file.specs.Faults.{fault_at, names, whole_at}
use Rattle.grant_file.specs.Fields.{judge_word, judge_value, judge_members, judge_fields}
use Rattle.grant_file.specs.Shapes.{grant_rows, judge_grant, judge_list, list_rows}

-- the reason of a fault
abbrev pub reason_of : GrantFault → Reason
reason_of fault = fault.reason

-- a field word
word_judges : (at : GrantPlace) (word : List ℕ) → IsOther reason_of (judge_word at word)
unfolding judge_word
word_judges at word = other_unless (fault_at at OutOfRange) _ tt

-- the value of a field
value_judges : Judges reason_of judge_value
unfolding judge_value
value_judges at d = other_unless (fault_at at WrongKind) _ tt

-- the members of an object of fields
members_judge : (at : GrantPlace) (ms : Members) → IsOther reason_of (judge_members at ms)
members_judge at no_members = other_none
members_judge at (member word d ms) =
    let found = judge_word at word ∷ judge_value at d ∷ judge_members at ms ∷ [] in
    other_first_of found (word_judges at word, (value_judges at d, (members_judge at ms, tt)))

-- an object of fields
fields_judge : Judges reason_of judge_fields
unfolding judge_fields
fields_judge at d = other_first_of_two _ _ (other_unless (fault_at at WrongKind) _ tt) (members_judge at (members_of d))

-- a whole number
whole_is_other : Judges reason_of (judge_whole names)
whole_is_other = whole_judges names reason_of (λ at r o. o)

-- a number in its range
number_is_other : (range : ℕ → Bool) → Judges reason_of (judge_number names range)
number_is_other = number_judges names reason_of (λ at r o. o)

-- a text of a form
text_is_other : (form : List ℕ → Bool) → Judges reason_of (judge_text names form)
text_is_other = text_judges names reason_of (λ at r o. o)

-- an object by the rows of its keys
rows_judge : (rows : List (Entry GrantKey GrantPlace GrantFault)) → AllJudge reason_of rows
    → Judges reason_of (object_by names rows)
rows_judge = object_by_judges names reason_of (λ at r o. o)

-- a grant
grant_judges : Judges reason_of judge_grant
unfolding judge_grant
grant_judges = rows_judge grant_rows (search (text_is_other, whole_is_other, number_is_other, fields_judge))

-- a list of grants
grants_judge : (low high : ℕ) → Judges reason_of (judge_list_of names low high judge_grant)
grants_judge low high = list_judges names reason_of (λ at r o. o) low high judge_grant grant_judges

-- the whole
pub list_is_other : (mu : ℕ) (d : Data) → IsOther reason_of (judge_list mu d)
unfolding judge_list
list_is_other mu d = rows_judge (list_rows mu) (search (number_is_other, grants_judge)) (whole_at None) d
