-- The lines of the error output, without their line feed: on the words, on what a file holds, and on a slot. Those on a file
-- that could not be fetched or was too long, and on want of memory, stand with the steps of a run.
use Rattle.std.specs.Prelude.{ℕ, List, [], ◌∷◌, ◌++◌, Bool, true, false, cond, Option, Some, None, codes}
use Rattle.std.specs.List.{flat_map}
use Rattle.std.specs.Fmt.{decimal}
use Rattle.rrc_settings.specs.declared.place.Reason.{Reason}
use Rattle.rrc_settings.specs.declared.place.Reason.TheVariants.{NotJson, Missing, Unknown, WrongKind, OutOfRange, Conflict}
use Rattle.rrc_settings.specs.declared.place.SettingsFault.{SettingsFault}
use Rattle.rrc_settings.specs.declared.place.Step.{Step}
use Rattle.rrc_settings.specs.declared.place.Step.TheVariants.{Key, Index}
use Rattle.rrc_settings.specs.Words.{word_of}
use Rattle.grant_file.specs.declared.place.GrantFault.{GrantFault}
use Rattle.grant_file.specs.declared.place.GrantKey.{GrantKey}
use Rattle.grant_file.specs.declared.place.GrantKey.TheVariants as grant_keys
use Rattle.grant_file.specs.Keys.{word_of as grant_word}
use Rattle.table_files.specs.declared.fault.TableFault.{TableFault}
use Rattle.table_files.specs.declared.fault.TableFault.TheVariants.{BadByte, TooLarge, Repeated, Count}

-- why a value is at fault
abbrev pub reason_text : Reason → List ℕ
reason_text NotJson = codes "not json"
reason_text Missing = codes "missing"
reason_text Unknown = codes "unknown"
reason_text WrongKind = codes "wrong kind"
reason_text OutOfRange = codes "out of range"
reason_text Conflict = codes "conflict"

-- a step to a value: the word of a key, or the number of an element
abbrev pub step_text : Step → List ℕ
step_text (Key key) = word_of key
step_text (Index n) = decimal n

-- a further step, behind a slash
unfoldable pub further : Step → List ℕ
further step = 47 ∷ step_text step

-- the place of a value: its steps with slashes between, or the whole file
abbrev pub place_text : List Step → List ℕ
place_text [] = codes "file"
place_text (step ∷ later) = step_text step ++ flat_map further later

-- the line on settings
unfoldable pub settings_line : SettingsFault → List ℕ
settings_line fault = codes "error: settings: " ++ place_text fault.place.steps.items ++ codes ": " ++ reason_text fault.reason

-- what is wrong with a table
abbrev pub table_fault_text : TableFault → List ℕ
table_fault_text (BadByte at) = codes "bad byte at " ++ decimal at
table_fault_text (TooLarge at value) = codes "value " ++ decimal value ++ codes " at " ++ decimal at ++ codes " too large"
table_fault_text (Repeated value) = codes "value " ++ decimal value ++ codes " repeated"
table_fault_text (Count found) = decimal found ++ codes " values"

-- the line on a reliability table
unfoldable pub reliability_line : TableFault → List ℕ
reliability_line fault = codes "error: reliability: " ++ table_fault_text fault

-- the line on an input order
unfoldable pub input_order_line : TableFault → List ℕ
input_order_line fault = codes "error: input order: " ++ table_fault_text fault

-- a place is the whole of what stands there
abbrev pub is_whole : GrantKey → Bool
is_whole grant_keys.Whole = true
is_whole _ = false

-- the place of a value in a list of grants: a key of the list, a grant by its number, or a key of that grant
abbrev pub grant_place_text : Option ℕ → GrantKey → List ℕ
grant_place_text None key = cond (is_whole key) (codes "file") (grant_word key)
grant_place_text (Some grant) key =
    codes "grants/" ++ decimal grant ++ cond (is_whole key) [] (47 ∷ grant_word key)

-- the line on grants
unfoldable pub grants_line : GrantFault → List ℕ
grants_line fault =
    codes "error: grants: " ++ grant_place_text fault.place.grant fault.place.key ++ codes ": " ++ reason_text fault.reason

-- the line on bytes that are no grid's text
unfoldable pub grid_place_line : ℕ → List ℕ
grid_place_line at = codes "error: grid: byte " ++ decimal at

-- the line on a number of a grid, behind its word, that is not the settings' number, which stands last
unfoldable pub grid_number_line : List ℕ → ℕ → ℕ → List ℕ
grid_number_line word grid settings = codes "error: grid: " ++ word ++ codes " " ++ decimal grid ++ codes " " ++ decimal settings

-- the line on words that are not legal
abbrev pub usage_line : List ℕ
usage_line = codes "error: usage"

-- the line on a name that no handset has
abbrev pub no_such_handset_line : List ℕ → List ℕ
no_such_handset_line name = codes "error: no such handset " ++ name

-- the line on a number that no watch has, as it was given
abbrev pub no_such_watch_line : List ℕ → List ℕ
no_such_watch_line word = codes "error: no such watch " ++ word

-- the line on a slot in which the common sets of a handset exceed a limit, with both counts
unfoldable pub slot_line : List ℕ → ℕ → ℕ → List ℕ
slot_line name candidates cces =
    codes "error: slot: handset " ++ name ++ codes ": " ++ decimal candidates ++ codes " candidates, " ++ decimal cces
    ++ codes " cces"
