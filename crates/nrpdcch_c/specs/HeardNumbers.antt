-- What is heard, as C has it.
use Rattle.std.specs.Prelude.{length, map, replicate}
use Rattle.dci_codec.specs.declared.heard.Heard.{Heard}
use Rattle.dci_fields.specs.declared.values.FieldValue.{FieldValue}
use Rattle.nrpdcch_c.specs.declared.heard.NrpdcchField.{NrpdcchField}
use Rattle.nrpdcch_c.specs.declared.heard.NrpdcchHeard.{NrpdcchHeard}
use Rattle.nrpdcch_c.specs.FormatNumbers.{format_number}
use Rattle.nrpdcch_c.specs.NameNumbers.{name_number}
use Rattle.nrpdcch_c.specs.Overlaid.{overlaid}

-- a field with its value
abbrev pub field_of : FieldValue → NrpdcchField
field_of v = record { name = name_number v.name; value = v.value }

-- no field
abbrev pub no_field : NrpdcchField
no_field = record { name = 0; value = 0 }

-- the number of the watch, the format, and the fields, of which there are 32 at most, with nothing behind them
abbrev pub heard_of : Heard → NrpdcchHeard
heard_of heard = record {
  watch = heard.watch;
  format = format_number heard.format;
  count = length heard.values;
  fields = overlaid (map field_of heard.values) (replicate 32 no_field);
}
