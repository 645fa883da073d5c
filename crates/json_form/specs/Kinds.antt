-- The kinds of values of a JSON file: how each is judged, and what it is worth. A file has its own keys, places and faults.
use Rattle.std.specs.Prelude.{ℕ, ◌+◌, ◌*◌, Bool, true, false, List, [], ◌∷◌, length, map, Option, Some, None}
use Rattle.std.specs.Prelude.{option_map, option_and_then, unwrap_or, is_some, cond, not, nat_eq, nat_le, bytes_eq, ◌&&◌}
use Rattle.std.specs.List.{list_any}
use Rattle.rrc_settings.specs.declared.place.Reason.TheVariants.{Missing, Unknown, WrongKind, OutOfRange}
use Rattle.rrc_settings.specs.Faults.{unless, first_of}
use Rattle.rrc_settings.specs.Numbers.{is_from_to}
use Rattle.rrc_settings.specs.Naming.{Naming}
use Rattle.serde_json.specs.Data.{Data, null, Items, no_items, item, Members, no_members, member}
use Rattle.serde_json.specs.Find.{get, as_bool, as_number, as_str, as_array, as_object, as_u64}

-- the elements, in order
abbrev pub list_of_items : Items → List Data
list_of_items no_items = []
list_of_items (item d ds) = d ∷ list_of_items ds

-- the whole number that a value is
abbrev pub whole_of : Data → Option ℕ
whole_of d = option_and_then as_u64 (as_number d)

-- the number of a value, 0 where it is no whole number
abbrev pub number_of : Data → ℕ
number_of d = unwrap_or (whole_of d) 0

-- the characters of a value, none where it is no text
abbrev pub text_of : Data → List ℕ
text_of d = unwrap_or (as_str d) []

-- whether a value is true
abbrev pub truth_of : Data → Bool
truth_of d = unwrap_or (as_bool d) false

-- the elements of a value, none where it is no list
abbrev pub elements_of : Data → List Data
elements_of d = list_of_items (unwrap_or (as_array d) no_items)

-- the members of a value, none where it is no object
abbrev pub members_of : Data → Members
members_of d = unwrap_or (as_object d) no_members

-- the number whose bit i is one where character i is `1`
abbrev pub bits_value : List ℕ → ℕ
bits_value [] = 0
bits_value (c ∷ cs) = cond (nat_eq c 49) 1 0 + 2 * bits_value cs

-- a key of an object: whether it must be there, and how its value is judged at its place
pub record Entry (K P F : Type 0) : Type 0 where
  pub key : K
  pub must_be : Bool
  pub judge : P → Data → Option F

-- a key that must be there
abbrev pub must : {K P F : Type 0} → K → (P → Data → Option F) → Entry K P F
must key judge = record { key = key; must_be = true; judge = judge }

-- a key that may be absent
abbrev pub may : {K P F : Type 0} → K → (P → Data → Option F) → Entry K P F
may key judge = record { key = key; must_be = false; judge = judge }

-- the first fault of a list's elements, which are counted from n on
abbrev pub first_from : {A F : Type 0} → (ℕ → A → Option F) → ℕ → List A → Option F
first_from judge n [] = None
first_from judge n (x ∷ later) = first_of (judge n x ∷ first_from judge (n + 1) later ∷ [])

module _ {K P F : Type 0} (names : Naming K P F) where
  -- a whole number of at most 16 bits
  unfoldable pub judge_whole : P → Data → Option F
  judge_whole at d = first_of
      (unless (names.fault at WrongKind) (is_some (whole_of d))
      ∷ unless (names.fault at OutOfRange) (nat_le (number_of d) 65535)
      ∷ [])

  -- a whole number of at most 16 bits that is in its range
  unfoldable pub judge_number : (ℕ → Bool) → P → Data → Option F
  judge_number range at d =
      first_of (judge_whole at d ∷ unless (names.fault at OutOfRange) (range (number_of d)) ∷ [])

  -- a text of a form
  unfoldable pub judge_text : (List ℕ → Bool) → P → Data → Option F
  judge_text form at d = first_of
      (unless (names.fault at WrongKind) (is_some (as_str d))
      ∷ unless (names.fault at OutOfRange) (form (text_of d))
      ∷ [])

  -- true or false
  unfoldable pub judge_truth : P → Data → Option F
  judge_truth at d = unless (names.fault at WrongKind) (is_some (as_bool d))

  -- a list whose length is from low to high
  unfoldable pub is_list : ℕ → ℕ → P → Data → Option F
  is_list low high at d = first_of
      (unless (names.fault at WrongKind) (is_some (as_array d))
      ∷ unless (names.fault at OutOfRange) (is_from_to low high (length (elements_of d)))
      ∷ [])

  -- a list of whole numbers whose length is from low to high, each at fault at the list's own place
  unfoldable pub judge_numbers : ℕ → ℕ → P → Data → Option F
  judge_numbers low high at d = first_of (is_list low high at d ∷ first_of (map (judge_whole at) (elements_of d)) ∷ [])

  -- the first fault of a list's elements, each judged at its own place
  abbrev pub judge_each : (P → Data → Option F) → P → List Data → Option F
  judge_each judge at ds = first_from (λ n. judge (names.element at n)) 0 ds

  -- a list whose length is from low to high, and then its elements in order
  unfoldable pub judge_list : ℕ → ℕ → (P → Data → Option F) → P → Data → Option F
  judge_list low high judge at d = first_of (is_list low high at d ∷ judge_each judge at (elements_of d) ∷ [])

  -- every member's key is one of these
  abbrev pub has_only : List K → Members → Bool
  has_only keys no_members = true
  has_only keys (member word d ms) = list_any (λ key. bytes_eq (names.word key) word) keys && has_only keys ms

  -- an object with no key but these, else at fault as a whole
  unfoldable pub is_object_of : List K → P → Data → Option F
  is_object_of keys at d = first_of
      (unless (names.fault at WrongKind) (is_some (as_object d))
      ∷ unless (names.fault at Unknown) (has_only keys (members_of d))
      ∷ [])

  -- the value of a key
  abbrev pub value_at : K → Data → Option Data
  value_at key d = get (names.word key) d

  -- what is found at a key whose value, where it is there, is given
  abbrev pub judge_given : Entry K P F → P → Option Data → Option F
  judge_given row at None = unless (names.fault (names.below at row.key) Missing) (not row.must_be)
  judge_given row at (Some d) = row.judge (names.below at row.key) d

  -- what is found at a key of the object at a place
  unfoldable pub entry : P → Data → Entry K P F → Option F
  entry at d row = judge_given row at (value_at row.key d)

  -- an object by its keys in order: first whether it is one of these keys, then each key's value
  abbrev pub object_by : List (Entry K P F) → P → Data → Option F
  object_by rows at d = first_of (is_object_of (map (λ row. row.key) rows) at d ∷ map (entry at d) rows)

  -- the value of a key, null where it is absent
  abbrev pub inner_at : K → Data → Data
  inner_at key d = unwrap_or (value_at key d) null

  -- the number at a key
  abbrev pub number_in : K → Data → ℕ
  number_in key d = number_of (inner_at key d)

  -- the number at a key, where the key is there
  abbrev pub optional_number_in : K → Data → Option ℕ
  optional_number_in key d = option_map number_of (value_at key d)

  -- the number at a key, and a default where the key is absent
  abbrev pub number_or_default_in : K → ℕ → Data → ℕ
  number_or_default_in key default d = unwrap_or (optional_number_in key d) default

  -- the text at a key
  abbrev pub text_in : K → Data → List ℕ
  text_in key d = text_of (inner_at key d)

  -- whether a key says true
  abbrev pub truth_in : K → Data → Bool
  truth_in key d = truth_of (inner_at key d)

  -- the elements of the list at a key
  abbrev pub elements_in : K → Data → List Data
  elements_in key d = elements_of (inner_at key d)

  -- the members of the object at a key, none where the key is absent
  abbrev pub members_in : K → Data → Members
  members_in key d = members_of (inner_at key d)
