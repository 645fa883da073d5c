-- Words of the code: the fields of the formats of a set, each made once, and a watch from them. `watch_of` is what a watch is.
use Rattle.std.specs.Prelude.{ℕ, ◌==◌, cond, List, Option, Some, None, option_map, unwrap_or}
use Rattle.rrc_settings.specs.declared.settings.RawCell.{RawCell}
use Rattle.rrc_settings.specs.declared.settings.Handset.{Handset}
use Rattle.rrc_settings.specs.declared.settings.SetKind.{SetKind}
use Rattle.dci_fields.specs.declared.rows.FieldRow.{FieldRow}
use Rattle.dci_fields.specs.declared.sizes.Sizes.{Sizes}
use Rattle.dci_fields.specs.FormatRows.{rows_of}
use Rattle.dci_fields.specs.FittedRows.{fitted}
use Rattle.coreset_map.specs.Candidates.{candidate_regs}
use Rattle.monitor_budget.specs.declared.candidates.Candidate.{Candidate}
use Rattle.monitor_budget.specs.declared.space.Space.{Space}
use Rattle.monitor_budget.specs.Scrambling.{scrambling_start}
use Rattle.monitor_plan.specs.declared.set_formats.SizedList.{SizedList}
use Rattle.monitor_plan.specs.declared.set_formats.SetFormats.{SetFormats}
use Rattle.monitor_plan.specs.declared.watch.Watch.{Watch}
use Rattle.dci_fields.specs.FormatsOfSets.{up_format, down_format, up_size, down_size, widths_in}

-- rows fitted to a size
abbrev pub sized : List FieldRow → ℕ → SizedList
sized rows size = record { size = size; list = fitted rows size }

-- rows fitted to the size of their format, where it has one
abbrev pub sized_list : Option ℕ → List FieldRow → Option SizedList
sized_list own rows = option_map (sized rows) own

-- the fields of a format at a size, where that is the format's
abbrev pub fields_at : Option SizedList → ℕ → Option (List FieldRow)
fields_at None size = None
fields_at (Some format) size = cond (format.size == size) (Some format.list) None

-- the formats of a kind of set
abbrev pub formats_of : RawCell → Handset → Sizes → SetKind → SetFormats
formats_of cell h sizes kind = record {
  up = sized_list (up_size sizes kind) (rows_of cell h (up_format kind) (widths_in sizes kind));
  down = sized_list (down_size sizes kind) (rows_of cell h (down_format kind) (widths_in sizes kind));
}

-- the watch of a candidate of a set, with the fields of its formats
abbrev pub watch_in : Space → SetFormats → Candidate → Watch
watch_in space formats c = record {
  set = space.set.number;
  kind = space.set.kind;
  symbol = c.symbol;
  level = c.level;
  candidate = c.candidate;
  size = c.size;
  up = fields_at formats.up c.size;
  down = fields_at formats.down c.size;
  regs = record { items = candidate_regs space.resources c.start c.level };
  dmrs_id = unwrap_or space.dmrs_id space.cell;
  scramble = scrambling_start space.set.kind space.cell space.rnti space.dmrs_id;
  rnti = space.rnti;
}
