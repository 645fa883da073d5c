-- The values of fields that a grant gives: their words and values are judged in the order of the words, at each word its form
-- first.
use Rattle.std.specs.Prelude.{ℕ, List, [], ◌∷◌, None, is_some}
use Rattle.dci_fields.specs.declared.fault.Given.{Given}
use Rattle.rrc_settings.specs.declared.place.Reason.TheVariants.{WrongKind, OutOfRange}
use Rattle.rrc_settings.specs.Faults.{unless, first_of}
use Rattle.serde_json.specs.Data.{Data, Members, no_members, member}
use Rattle.serde_json.specs.Find.{as_object}
use Rattle.json_form.specs.Kinds.{whole_of, number_of, members_of}
use Rattle.grant_file.specs.declared.place.GrantPlace.{GrantPlace}
use Rattle.dci_fields.specs.Words.{field_named}
use Rattle.grant_file.specs.FieldWord.{is_field_word}
use Rattle.grant_file.specs.Faults.{Finding, fault_at}

-- a word of the form of field words
unfoldable pub judge_word : GrantPlace → List ℕ → Finding
judge_word at word = unless (fault_at at OutOfRange) (is_field_word word)

-- a whole number of at most 64 bits
unfoldable pub judge_value : GrantPlace → Data → Finding
judge_value at d = unless (fault_at at WrongKind) (is_some (whole_of d))

-- the members in order, each first by its word
abbrev pub judge_members : GrantPlace → Members → Finding
judge_members at no_members = None
judge_members at (member word d ms) = first_of (judge_word at word ∷ judge_value at d ∷ judge_members at ms ∷ [])

-- an object of field words and values
unfoldable pub judge_fields : GrantPlace → Data → Finding
judge_fields at d = first_of (unless (fault_at at WrongKind) (is_some (as_object d)) ∷ judge_members at (members_of d) ∷ [])

-- the name of each word with its value
abbrev pub given_in : Members → List Given
given_in no_members = []
given_in (member word d ms) = record { name = field_named word; value = number_of d } ∷ given_in ms

-- the words
abbrev pub words_in : Members → List (List ℕ)
words_in no_members = []
words_in (member word d ms) = word ∷ words_in ms
