-- What holds of values in which no fault is found.
use Rattle.std.proofs.Common.{◌≡◌, ◌∙◌, ℕ, ◌≤◌, Bool, true, false, cond, List, [], ◌∷◌, inl, inr, length, map, sym, bytes_eq}
use Rattle.std.proofs.Common.{Option, None, Some, is_some, unwrap_or}
use Rattle.std.specs.List.{find}
use Rattle.list_facts.proofs.Members.{IsIn, map_in}
use Rattle.std.proofs.lemmas.Bool.{and_parts, leb-true}
use Rattle.rrc_settings.specs.declared.place.Reason.TheVariants.{Missing, WrongKind, OutOfRange}
use Rattle.rrc_settings.specs.Faults.{first_of, unless}
use Rattle.rrc_settings.specs.Numbers.{is_from_to}
use Rattle.rrc_settings.specs.Naming.{Naming}
use Rattle.rrc_settings.proofs.NoFault.{first_none, two_none, unless_none}
use Rattle.serde_json.specs.Data.{Data, null}
use Rattle.serde_json.specs.Find.{as_array}
use Rattle.json_form.specs.Kinds.{Entry, must, object_by, is_object_of}
use Rattle.json_form.specs.Kinds.{number_of, elements_of, judge_whole, judge_number, is_list, judge_each, judge_list}
use Rattle.json_form.specs.Kinds.{judge_given, entry, value_at, inner_at}
use Rattle.json_form.specs.Texts.{json_of, found_given, found_in, spelled_in}

-- what the reading spells, where one is given
spelled_given : {F T : Type 0} (no_json : F) (judge : Data → Option F) (value : Data → T) (Has : T → Type 0)
    → ((d : Data) → judge d ≡ None → Has (value d)) → (given : Option Data)
    → found_given no_json judge given ≡ None → Has (value (unwrap_or given null))
spelled_given no_json judge value Has each None e = cc
spelled_given no_json judge value Has each (Some d) e = each d e

-- what holds of all that is spelled by values without a fault holds of what bytes without one spell
pub spelled_where_none : {F T : Type 0} (no_json : F) (judge : Data → Option F) (value : Data → T) (Has : T → Type 0)
    → ((d : Data) → judge d ≡ None → Has (value d)) → (bytes : List ℕ)
    → found_in no_json judge bytes ≡ None → Has (spelled_in value bytes)
unfolding found_in spelled_in
spelled_where_none no_json judge value Has each bytes e = spelled_given no_json judge value Has each (json_of bytes) e

-- where checks in order find none, none of them does
none_in : {F : Type 0} (found : Option F) (fs : List (Option F)) → first_of fs ≡ None → IsIn found fs → found ≡ None
none_in found [] e i = absurd i
none_in found (f ∷ fs) e (inl same) = same ∙ (first_none f fs e).0
none_in found (f ∷ fs) e (inr later) = none_in found fs (first_none f fs e).1 later

-- what is found first or later is in the list
in_where_found : {A : Type 0} (b : Bool) (x y : A) (xs : List A) (found : Option A) → cond b (Some x) found ≡ Some y
    → (found ≡ Some y → IsIn y xs) → IsIn y (x ∷ xs)
in_where_found true x y xs found e later = let same : x ≡ y = cc in inl (sym same)
in_where_found false x y xs found e later = inr (later e)

-- what is found in a list is in it
found_is_in : {A : Type 0} (test : A → Bool) (xs : List A) (y : A) → find test xs ≡ Some y → IsIn y xs
found_is_in test [] y e = cc
found_is_in test (x ∷ xs) y e = in_where_found (test x) x y xs (find test xs) e (found_is_in test xs y)

-- an object without a fault has none at a key that is found among its rows
pub entry_none : {K P F : Type 0} (names : Naming K P F) (rows : List (Entry K P F)) (row : Entry K P F) (at : P) (d : Data)
    → find (λ (r : Entry K P F). bytes_eq (names.word r.key) (names.word row.key)) rows ≡ Some row
    → object_by names rows at d ≡ None → entry names at d row ≡ None
entry_none {K = K} {P = P} {F = F} names rows row at d is e =
    let same = λ (r : Entry K P F). bytes_eq (names.word r.key) (names.word row.key) in
    let shape = is_object_of names (map (λ (r : Entry K P F). r.key) rows) at d in
    let found = map (entry names at d) rows in
    let here = map_in (entry names at d) row rows (found_is_in same rows row is) in
    none_in (entry names at d row) found (first_none shape found e).1 here

-- a value that must be there, where one is given
given_none : {K P F : Type 0} (names : Naming K P F) (at : P) (key : K) (judge : P → Data → Option F) (given : Option Data)
    → judge_given names (must key judge) at given ≡ None → judge (names.below at key) (unwrap_or given null) ≡ None
given_none names at key judge None e =
    let never = unless_none (names.fault (names.below at key) Missing) _ e in cc
given_none names at key judge (Some d) e = e

-- the value of a key that must be there has no fault
pub required_none : {K P F : Type 0} (names : Naming K P F) (at : P) (key : K) (judge : P → Data → Option F) (d : Data)
    → entry names at d (must key judge) ≡ None → judge (names.below at key) (inner_at names key d) ≡ None
unfolding entry
required_none names at key judge d e = given_none names at key judge (value_at names key d) e

-- a number without a fault is in its range
pub number_none : {K P F : Type 0} (names : Naming K P F) (range : ℕ → Bool) (at : P) (d : Data)
    → judge_number names range at d ≡ None → range (number_of d) ≡ true
unfolding judge_number
number_none names range at d e =
    let fault = names.fault at OutOfRange in
    unless_none fault (range (number_of d)) (two_none (judge_whole names at d) (unless fault (range (number_of d))) e).1

-- the length of a list without a fault is in its range
pub list_none : {K P F : Type 0} (names : Naming K P F) (low high : ℕ) (judge : P → Data → Option F) (at : P) (d : Data)
    → judge_list names low high judge at d ≡ None → (low ≤ length (elements_of d)) × (length (elements_of d) ≤ high)
unfolding judge_list is_list
list_none names low high judge at d e =
    let size = length (elements_of d) in
    let fault = names.fault at OutOfRange in
    let list = (two_none (is_list names low high at d) (judge_each names judge at (elements_of d)) e).0 in
    let wrong_kind = names.fault at WrongKind in
    let in_range = (two_none (unless wrong_kind (is_some (as_array d))) (unless fault (is_from_to low high size)) list).1 in
    let (least, most) = and_parts _ _ (unless_none fault (is_from_to low high size) in_range) in
    (leb-true low size least, leb-true size high most)
