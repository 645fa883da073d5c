-- The watches of a handset in a slot, in search order (3GPP TS 38.213, 10.1).
use Rattle.std.specs.Prelude.{ℕ, ◌==◌, cond, List, Option, Some, None, map, unwrap_or}
use Rattle.std.specs.List.{flat_map}
use Rattle.rrc_settings.specs.declared.settings.RawCell.{RawCell}
use Rattle.rrc_settings.specs.declared.settings.Handset.{Handset}
use Rattle.rrc_settings.specs.declared.settings.SearchSet.{SearchSet}
use Rattle.rrc_settings.specs.declared.settings.SetKind.{SetKind}
use Rattle.dci_fields.specs.declared.rows.FieldRow.{FieldRow}
use Rattle.dci_fields.specs.declared.sizes.Sizes.{Sizes}
use Rattle.dci_fields.specs.FormatRows.{rows_of}
use Rattle.dci_fields.specs.FittedRows.{fitted}
use Rattle.dci_fields.specs.FormatsOfSets.{up_format, down_format, up_size, down_size, widths_in}
use Rattle.coreset_map.specs.Candidates.{candidate_regs}
use Rattle.coreset_map.specs.ResourcesOfCell.{resources_in}
use Rattle.monitor_budget.specs.declared.candidates.Candidate.{Candidate}
use Rattle.monitor_budget.specs.Counts.{candidates_of, scrambling_of}
use Rattle.rrc_settings.specs.HandsetsOfCell.{set_at, coreset_of}
use Rattle.monitor_plan.specs.declared.watch.Watch.{Watch}

-- rows fitted to a size, where it is that of their format
abbrev pub list_at : Option ℕ → List FieldRow → ℕ → Option (List FieldRow)
list_at None rows size = None
list_at (Some own) rows size = cond (own == size) (Some (fitted rows size)) None

-- the fields of the uplink format at a size
abbrev pub up_list : RawCell → Handset → Sizes → SetKind → ℕ → Option (List FieldRow)
up_list cell h sizes kind size =
    list_at (up_size sizes kind) (rows_of cell h (up_format kind) (widths_in sizes kind)) size

-- the fields of the downlink format at a size
abbrev pub down_list : RawCell → Handset → Sizes → SetKind → ℕ → Option (List FieldRow)
down_list cell h sizes kind size =
    list_at (down_size sizes kind) (rows_of cell h (down_format kind) (widths_in sizes kind)) size

-- the identity of the reference signal of a set: that of its CORESET, or else the cell's number (3GPP TS 38.211, 7.4.1.3.1)
abbrev pub reference_id : RawCell → Handset → SearchSet → ℕ
reference_id cell h s = unwrap_or (coreset_of h s).dmrs_id cell.cell

-- the watch of a candidate of a set
unfoldable pub watch_of : RawCell → Handset → Sizes → SearchSet → Candidate → Watch
watch_of cell h sizes s c = record {
  set = s.number;
  kind = s.kind;
  symbol = c.symbol;
  level = c.level;
  candidate = c.candidate;
  size = c.size;
  up = up_list cell h sizes s.kind c.size;
  down = down_list cell h sizes s.kind c.size;
  regs = record { items = candidate_regs (resources_in cell.cell h.downlink.start (coreset_of h s)) c.start c.level };
  dmrs_id = reference_id cell h s;
  scramble = scrambling_of cell h s;
  rnti = h.rnti;
}

-- the watches of a set, by symbol, level, candidate and size
unfoldable pub set_watches : RawCell → Handset → Sizes → SearchSet → List Watch
set_watches cell h sizes s = map (watch_of cell h sizes s) (candidates_of cell h sizes s)

-- those of the sets at some places, set by set
unfoldable pub watches_of : RawCell → Handset → Sizes → List ℕ → List Watch
watches_of cell h sizes places = flat_map (λ place. set_watches cell h sizes (set_at h place)) places
