-- The shape of each object of the settings, by the tables of their keys (3GPP TS 38.331, 6.3.2).
use Rattle.std.specs.Prelude.{List, map, Some}
use Rattle.rrc_settings.specs.declared.place.Place.{Place}
use Rattle.rrc_settings.specs.declared.place.SettingsFault.{SettingsFault}
use Rattle.rrc_settings.specs.declared.place.Reason.TheVariants.{WrongKind}
use Rattle.rrc_settings.specs.declared.words.Key.{Key}
use Rattle.rrc_settings.specs.declared.words.Key.TheVariants as keys
use Rattle.rrc_settings.specs.Faults.{Finding}
use Rattle.rrc_settings.specs.Naming.{names}
use Rattle.rrc_settings.specs.Table as table
use Rattle.serde_json.specs.Data.{Data}
use Rattle.json_form.specs.Kinds.{Entry, judge_whole, judge_text, judge_truth, judge_numbers, judge_list, object_by}

-- a value of a kind; what stands in objects and lists is judged by `inside`
abbrev pub judge_of : table.Kind → (Place → Data → Finding) → Place → Data → Finding
judge_of table.whole inside = judge_whole names
judge_of (table.text form) inside = judge_text names form
judge_of table.truth inside = judge_truth names
judge_of (table.numbers count) inside = judge_numbers names count count
judge_of table.object inside = inside
judge_of (table.objects low high) inside = judge_list names low high inside

-- a row of a table, with how the value at its key is judged
abbrev pub row_of : {T : Type 0} → (Key → Place → Data → Finding) → table.Row T → Entry Key Place SettingsFault
row_of inside row = record { key = row.key; must_be = row.must_be; judge = judge_of row.kind (inside row.key) }

-- an object by a table of its keys; what stands inside at a key is judged by `inside`
abbrev pub shape_by : {T : Type 0} → List (table.Row T) → (Key → Place → Data → Finding) → Place → Data → Finding
shape_by rows inside = object_by names (map (row_of inside) rows)

-- nothing stands inside: an object at a key for which no shape is given is of the wrong kind
abbrev pub nothing_inside : Key → Place → Data → Finding
nothing_inside key at d = Some (names.fault at WrongKind)

-- a bandwidth part
unfoldable pub bwp : Place → Data → Finding
bwp = shape_by table.bwp_table nothing_inside

-- an interleaver
unfoldable pub interleave : Place → Data → Finding
interleave = shape_by table.interleave_table nothing_inside

-- what stands inside a CORESET at a key
abbrev pub inside_coreset : Key → Place → Data → Finding
inside_coreset keys.Interleave = interleave
inside_coreset key = nothing_inside key

-- a CORESET
unfoldable pub coreset : Place → Data → Finding
coreset = shape_by table.coreset_table inside_coreset

-- a search space set
unfoldable pub search_set : Place → Data → Finding
search_set = shape_by table.set_table nothing_inside

-- what decides the fields of format 0_1
unfoldable pub uplink : Place → Data → Finding
uplink = shape_by table.uplink_table nothing_inside

-- what decides the fields of format 1_1
unfoldable pub downlink : Place → Data → Finding
downlink = shape_by table.downlink_table nothing_inside

-- what stands inside a handset at a key
abbrev pub inside_handset : Key → Place → Data → Finding
inside_handset keys.Downlink = bwp
inside_handset keys.Uplink = bwp
inside_handset keys.Coresets = coreset
inside_handset keys.Sets = search_set
inside_handset keys.UplinkFields = uplink
inside_handset keys.DownlinkFields = downlink
inside_handset key = nothing_inside key

-- a handset
unfoldable pub handset : Place → Data → Finding
handset = shape_by table.handset_table inside_handset

-- what stands inside the whole at a key
abbrev pub inside_cell : Key → Place → Data → Finding
inside_cell keys.Handsets = handset
inside_cell key = nothing_inside key

-- the whole
unfoldable pub cell : Place → Data → Finding
cell = shape_by table.cell_table inside_cell
