-- The grants that a JSON value spells where it has no fault.
use Rattle.std.specs.Prelude.{ℕ, List, map, unwrap_or}
use Rattle.dci_fields.specs.declared.formats.Format.{Format}
use Rattle.dci_fields.specs.declared.formats.Format.TheVariants.{F00}
use Rattle.dci_fields.specs.Formats.{format_named}
use Rattle.serde_json.specs.Data.{Data}
use Rattle.json_form.specs.Kinds.{number_in, optional_number_in, text_in, elements_in, members_in}
use Rattle.grant_file.specs.declared.grants.Grant.{Grant}
use Rattle.grant_file.specs.declared.grants.GrantList.{GrantList}
use Rattle.grant_file.specs.declared.place.GrantKey.TheVariants as keys
use Rattle.grant_file.specs.Faults.{names}
use Rattle.grant_file.specs.Fields.{given_in, words_in}

-- the format that a word names; F00 where it names none, as 0 stands for no number
abbrev pub format_of : List ℕ → Format
format_of word = unwrap_or (format_named word) F00

-- a grant
unfoldable pub grant_value : Data → Grant
grant_value d = record {
  handset = text_in names keys.Handset d;
  set = number_in names keys.Set d;
  level = number_in names keys.Level d;
  candidate = optional_number_in names keys.Candidate d;
  symbol = optional_number_in names keys.Symbol d;
  format = format_of (text_in names keys.Format d);
  given = given_in (members_in names keys.Fields d);
  words = words_in (members_in names keys.Fields d);
}

-- the grants of a slot
unfoldable pub list_value : Data → GrantList
list_value d = record {
  frame = number_in names keys.Frame d;
  slot = number_in names keys.Slot d;
  grants = map grant_value (elements_in names keys.Grants d);
}
