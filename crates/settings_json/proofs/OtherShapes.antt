-- No check of the shape finds that a text is no JSON.
use Rattle.std.proofs.Common.{List, [], ◌∷◌, map}
use Rattle.rrc_settings.specs.declared.place.Place.{Place}
use Rattle.rrc_settings.specs.declared.words.Key.{Key}
use Rattle.rrc_settings.specs.declared.words.Key.TheVariants as keys
use Rattle.rrc_settings.specs.Faults.{Finding}
use Rattle.rrc_settings.specs.Table as table
use Rattle.serde_json.specs.Data.{Data}
use Rattle.rrc_settings.specs.Naming.{names}
use Rattle.settings_json.specs.Shapes.{judge_of, row_of, shape_by, nothing_inside, bwp, interleave, inside_coreset, coreset}
use Rattle.settings_json.specs.Shapes.{search_set, uplink, downlink, inside_handset, handset, inside_cell, cell}
use Rattle.settings_json.proofs.OtherFaults.{IsOther, reason_of}
use Rattle.json_form.proofs.OtherKinds.{AllJudge, whole_judges, text_judges, truth_judges, numbers_judges}
use Rattle.json_form.proofs.OtherKinds.{list_judges, object_by_judges}

-- a judgement of values that finds only other things
abbrev pub Judges : (Place → Data → Finding) → Type 0
Judges judge = (at : Place) (d : Data) → IsOther (judge at d)

-- a value of any kind, where what stands inside is so judged
kind_judges : (kind : table.Kind) (inside : Place → Data → Finding) → Judges inside → Judges (judge_of kind inside)
kind_judges table.whole inside h = whole_judges names reason_of (λ at r o. o)
kind_judges (table.text form) inside h = text_judges names reason_of (λ at r o. o) form
kind_judges table.truth inside h = truth_judges names reason_of (λ at r o. o)
kind_judges (table.numbers count) inside h = numbers_judges names reason_of (λ at r o. o) count count
kind_judges table.object inside h = h
kind_judges (table.objects low high) inside h = list_judges names reason_of (λ at r o. o) low high inside h

-- the rows of a table
rows_judge : {T : Type 0} (rows : List (table.Row T)) (inside : Key → Place → Data → Finding) →
    ((key : Key) → Judges (inside key)) → AllJudge reason_of (map (row_of inside) rows)
rows_judge [] inside h = tt
rows_judge (row ∷ rows) inside h = (kind_judges row.kind (inside row.key) (h row.key), rows_judge rows inside h)

-- an object by a table
shape_judges : {T : Type 0} (rows : List (table.Row T)) (inside : Key → Place → Data → Finding) →
    ((key : Key) → Judges (inside key)) → Judges (shape_by rows inside)
shape_judges rows inside h = object_by_judges names reason_of (λ at r o. o) (map (row_of inside) rows) (rows_judge rows inside h)

-- no object inside
nothing_judges : (key : Key) → Judges (nothing_inside key)
nothing_judges key at d = record { has = tt }

-- an interleaver
interleave_judges : Judges interleave
unfolding interleave
interleave_judges = shape_judges table.interleave_table nothing_inside nothing_judges

-- what stands inside a CORESET
inside_coreset_judges : (key : Key) → Judges (inside_coreset key)
inside_coreset_judges keys.Interleave = interleave_judges
inside_coreset_judges key = nothing_judges key

-- a CORESET
coreset_judges : Judges coreset
unfolding coreset
coreset_judges = shape_judges table.coreset_table inside_coreset inside_coreset_judges

-- what stands inside a handset
inside_handset_judges : (key : Key) → Judges (inside_handset key)
unfolding bwp search_set uplink downlink
inside_handset_judges keys.Downlink = shape_judges table.bwp_table nothing_inside nothing_judges
inside_handset_judges keys.Uplink = shape_judges table.bwp_table nothing_inside nothing_judges
inside_handset_judges keys.Coresets = coreset_judges
inside_handset_judges keys.Sets = shape_judges table.set_table nothing_inside nothing_judges
inside_handset_judges keys.UplinkFields = shape_judges table.uplink_table nothing_inside nothing_judges
inside_handset_judges keys.DownlinkFields = shape_judges table.downlink_table nothing_inside nothing_judges
inside_handset_judges key = nothing_judges key

-- a handset
handset_judges : Judges handset
unfolding handset
handset_judges = shape_judges table.handset_table inside_handset inside_handset_judges

-- what stands inside the whole
inside_cell_judges : (key : Key) → Judges (inside_cell key)
inside_cell_judges keys.Handsets = handset_judges
inside_cell_judges key = nothing_judges key

-- the whole
pub cell_judges : Judges cell
unfolding cell
cell_judges = shape_judges table.cell_table inside_cell inside_cell_judges
