-- The keys of a list of grants and of a grant, in order, each with how its value is judged.
use Rattle.std.specs.Prelude.{ℕ, ◌*◌, ◌^◌, Bool, List, [], ◌∷◌, None, nat_lt, is_some}
use Rattle.dci_fields.specs.Formats.{format_named}
use Rattle.rrc_settings.specs.Name.{is_name}
use Rattle.rrc_settings.specs.AggregationLevels.{is_level}
use Rattle.serde_json.specs.Data.{Data}
use Rattle.json_form.specs.Kinds.{Entry, must, may, judge_whole, judge_number, judge_text, object_by}
use Rattle.json_form.specs.Kinds.{judge_list as judge_list_of}
use Rattle.grant_file.specs.declared.place.GrantFault.{GrantFault}
use Rattle.grant_file.specs.declared.place.GrantKey.{GrantKey}
use Rattle.grant_file.specs.declared.place.GrantKey.TheVariants as keys
use Rattle.grant_file.specs.declared.place.GrantPlace.{GrantPlace}
use Rattle.grant_file.specs.Faults.{Finding, names, whole_at}
use Rattle.grant_file.specs.Fields.{judge_fields}

-- a number below another
abbrev pub is_below : ℕ → ℕ → Bool
is_below bound n = nat_lt n bound

-- how many slots a frame has (3GPP TS 38.211, 4.3.2)
abbrev pub slots_of_frame : ℕ → ℕ
slots_of_frame mu = 10 * 2 ^ mu

-- the word of a format
abbrev pub is_format : List ℕ → Bool
is_format word = is_some (format_named word)

-- the keys of a grant
abbrev pub grant_rows : List (Entry GrantKey GrantPlace GrantFault)
grant_rows
    = must keys.Handset (judge_text names is_name)
    ∷ must keys.Set (judge_whole names)
    ∷ must keys.Level (judge_number names is_level)
    ∷ may keys.Candidate (judge_whole names)
    ∷ may keys.Symbol (judge_whole names)
    ∷ must keys.Format (judge_text names is_format)
    ∷ may keys.Fields judge_fields
    ∷ []

-- the grant at a place
unfoldable pub judge_grant : GrantPlace → Data → Finding
judge_grant = object_by names grant_rows

-- the keys of the list, where a frame has as many slots as the numerology says
abbrev pub list_rows : ℕ → List (Entry GrantKey GrantPlace GrantFault)
list_rows mu
    = must keys.Frame (judge_number names (is_below 1024))
    ∷ must keys.Slot (judge_number names (is_below (slots_of_frame mu)))
    ∷ must keys.Grants (judge_list_of names 0 4096 judge_grant)
    ∷ []

-- the whole, where a frame has as many slots as the numerology says
unfoldable pub judge_list : ℕ → Data → Finding
judge_list mu = object_by names (list_rows mu) (whole_at None)
