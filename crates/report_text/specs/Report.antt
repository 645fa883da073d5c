-- The lines of a handset: how many watches it has and at how many it heard something, then what it heard.
use Rattle.std.specs.Prelude.{ℕ, List, [], ◌∷◌, ◌++◌, codes, length}
use Rattle.std.specs.List.{flat_map}
use Rattle.std.specs.Fmt.{decimal}
use Rattle.dci_fields.specs.declared.formats.Format.{Format}
use Rattle.dci_fields.specs.declared.values.FieldValue.{FieldValue}
use Rattle.dci_fields.specs.Formats.{format_word}
use Rattle.dci_fields.specs.Words.{word_of}
use Rattle.dci_codec.specs.declared.heard.Heard.{Heard}
use Rattle.monitor_plan.specs.declared.watch.Watch.{Watch}
use Rattle.monitor_plan.specs.Watch.{watch_at}
use Rattle.plain_text.specs.Hexadecimal.{hex_word}

-- a handset, the number of its watches and of those at which it heard something
unfoldable pub handset_line : List ℕ → ℕ → ℕ → List ℕ
handset_line name watches heard =
    codes "handset " ++ name ++ codes " watches " ++ decimal watches ++ codes " heard " ++ decimal heard ++ 10 ∷ []

-- where a watch looks and at which level, and its size
unfoldable pub watch_text : Watch → List ℕ
watch_text watch =
    codes "set " ++ decimal watch.set ++ codes " symbol " ++ decimal watch.symbol ++ codes " level " ++ decimal watch.level
    ++ codes " candidate " ++ decimal watch.candidate ++ codes " size " ++ decimal watch.size

-- what a line begins with: the watch, the identity that masks the parity there, and the format that was heard
unfoldable pub heard_start : Watch → Format → List ℕ
heard_start watch format = watch_text watch ++ codes " rnti " ++ hex_word watch.rnti ++ 32 ∷ [] ++ format_word format

-- a field and its value, behind a space
unfoldable pub field_text : FieldValue → List ℕ
field_text field = 32 ∷ [] ++ word_of field.name ++ 61 ∷ [] ++ decimal field.value

-- what was heard at a watch: a format and the shown fields
unfoldable pub heard_line : Watch → Format → List FieldValue → List ℕ
heard_line watch format fields = heard_start watch format ++ flat_map field_text fields ++ 10 ∷ []

-- the line of an entry, which names its watch by its place in a list
unfoldable pub entry_line : List Watch → Heard → List ℕ
entry_line watches heard = heard_line (watch_at watches heard.watch) heard.format heard.values

-- the lines of a handset with its watches, and with what it heard in order
unfoldable pub report_text : List ℕ → List Watch → List Heard → List ℕ
report_text name watches heard =
    handset_line name (length watches) (length heard) ++ flat_map (entry_line watches) heard
