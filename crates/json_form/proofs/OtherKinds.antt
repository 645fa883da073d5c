-- No kind of value, and no object by its keys, is found to be no JSON.
use Rattle.std.proofs.Common.{ℕ, List, [], ◌∷◌, map, Bool}
use Rattle.std.specs.Prelude.{Option, None, Some}
use Rattle.rrc_settings.specs.declared.place.Reason.{Reason}
use Rattle.rrc_settings.specs.declared.place.Reason.TheVariants.{Missing, Unknown, WrongKind, OutOfRange}
use Rattle.rrc_settings.specs.Faults.{unless}
use Rattle.serde_json.specs.Data.{Data}
use Rattle.rrc_settings.specs.Naming.{Naming}
use Rattle.json_form.specs.Kinds.{Entry, judge_whole, judge_number, judge_text, judge_truth, is_list, judge_numbers}
use Rattle.json_form.specs.Kinds.{judge_list, is_object_of, judge_given, entry, object_by, value_at, elements_of}
use Rattle.json_form.proofs.OtherReasons.{IsOtherReason, IsOther, AllOther, other_unless, other_first_of}
use Rattle.json_form.proofs.OtherReasons.{other_first_of_two, other_map, other_first_from}

-- a judgement of values that finds only other things
abbrev pub Judges : {P F : Type 0} → (F → Reason) → (P → Data → Option F) → Type 0
Judges {P = P} reason judge = (at : P) (d : Data) → IsOther reason (judge at d)

-- each key of these has a judgement that finds only other things
abbrev pub AllJudge : {K P F : Type 0} → (F → Reason) → List (Entry K P F) → Type 0
AllJudge reason [] = Unit {0}
AllJudge reason (row ∷ rows) = Judges reason row.judge × AllJudge reason rows

module _ {K P F : Type 0} (names : Naming K P F) (reason : F → Reason)
    (kept : (at : P) (r : Reason) → IsOtherReason r → IsOtherReason (reason (names.fault at r))) where
  -- a test with another reason
  pub unless_judges : (at : P) (r : Reason) (test : Bool) → IsOtherReason r → IsOther reason (unless (names.fault at r) test)
  unless_judges at r test h = other_unless (names.fault at r) test (kept at r h)

  -- a whole number
  pub whole_judges : Judges reason (judge_whole names)
  unfolding judge_whole
  whole_judges at d = other_first_of_two _ _ (unless_judges at WrongKind _ tt) (unless_judges at OutOfRange _ tt)

  -- a number in its range
  pub number_judges : (range : ℕ → Bool) → Judges reason (judge_number names range)
  unfolding judge_number
  number_judges range at d = other_first_of_two _ _ (whole_judges at d) (unless_judges at OutOfRange _ tt)

  -- a text of a form
  pub text_judges : (form : List ℕ → Bool) → Judges reason (judge_text names form)
  unfolding judge_text
  text_judges form at d = other_first_of_two _ _ (unless_judges at WrongKind _ tt) (unless_judges at OutOfRange _ tt)

  -- true or false
  pub truth_judges : Judges reason (judge_truth names)
  unfolding judge_truth
  truth_judges at d = unless_judges at WrongKind _ tt

  -- a list whose length is from low to high
  is_list_judges : (low high : ℕ) → Judges reason (is_list names low high)
  unfolding is_list
  is_list_judges low high at d = other_first_of_two _ _ (unless_judges at WrongKind _ tt) (unless_judges at OutOfRange _ tt)

  -- a list of numbers
  pub numbers_judges : (low high : ℕ) → Judges reason (judge_numbers names low high)
  unfolding judge_numbers
  numbers_judges low high at d =
      let each = other_map (judge_whole names at) (elements_of d) (whole_judges at) in
      other_first_of_two _ _ (is_list_judges low high at d) (other_first_of _ each)

  -- a list of what is so judged
  pub list_judges : (low high : ℕ) (judge : P → Data → Option F) → Judges reason judge
      → Judges reason (judge_list names low high judge)
  unfolding judge_list
  list_judges low high judge h at d =
      other_first_of_two _ _ (is_list_judges low high at d)
      (other_first_from (λ n. judge (names.element at n)) 0 (elements_of d) (λ n. h (names.element at n)))

  -- an object with no key but these
  object_judges : (keys : List K) → Judges reason (is_object_of names keys)
  unfolding is_object_of
  object_judges keys at d = other_first_of_two _ _ (unless_judges at WrongKind _ tt) (unless_judges at Unknown _ tt)

  -- the value of a key, given or absent
  given_judges : (row : Entry K P F) (at : P) (d : Option Data) → Judges reason row.judge
      → IsOther reason (judge_given names row at d)
  given_judges row at None h = unless_judges (names.below at row.key) Missing _ tt
  given_judges row at (Some d) h = h (names.below at row.key) d

  -- the value of a key
  entry_judges : (row : Entry K P F) (at : P) (d : Data) → Judges reason row.judge → IsOther reason (entry names at d row)
  unfolding entry
  entry_judges row at d h = given_judges row at (value_at names row.key d) h

  -- the values of keys
  entries_judge : (rows : List (Entry K P F)) (at : P) (d : Data) → AllJudge reason rows
      → AllOther reason (map (entry names at d) rows)
  entries_judge [] at d h = tt
  entries_judge (row ∷ rows) at d h = (entry_judges row at d h.0, entries_judge rows at d h.1)

  -- an object by its keys
  pub object_by_judges : (rows : List (Entry K P F)) → AllJudge reason rows → Judges reason (object_by names rows)
  object_by_judges rows h at d =
      let words = map (λ (row : Entry K P F). row.key) rows in
      let found = is_object_of names words at d ∷ map (entry names at d) rows in
      other_first_of found (object_judges words at d, entries_judge rows at d h)
