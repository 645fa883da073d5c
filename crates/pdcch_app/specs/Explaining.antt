-- What `explain` prints: of one watch of a handset in the slot of the grid, where it looks, and what is heard there or why
-- nothing is.
use Rattle.std.specs.Prelude.{ℕ, true, cond, ltb, List, [], Option, Some, None, Result, Ok, Err, length}
use Rattle.rrc_settings.specs.declared.settings.RawCell.{RawCell}
use Rattle.monitor_budget.specs.declared.allotment.CommonOver.{CommonOver}
use Rattle.monitor_plan.specs.declared.watch.Watch.{Watch}
use Rattle.monitor_plan.specs.Planned.{planned}
use Rattle.monitor_plan.specs.Watch.{watch_at}
use Rattle.slot_grid.specs.Grid.{GridValue}
use Rattle.table_files.specs.declared.tables.Tables.{Tables}
use Rattle.dci_codec.specs.Answer.{answer_at}
use Rattle.report_text.specs.Explain.{explain_text}
use Rattle.run_steps.specs.Outcome.{Refusal, Printed, NotThere}
use Rattle.pdcch_app.specs.Arguments.{number_of}
use Rattle.pdcch_app.specs.Lines.{no_such_watch_line}
use Rattle.pdcch_app.specs.Reporting.{handset_named, unknown_handset, over_limits}

-- the lines of a watch with its number, and the answer there
abbrev pub watch_text : Tables → GridValue → Watch → ℕ → List ℕ
watch_text tables grid watch number = explain_text watch number (answer_at tables grid watch number)

-- lines that are printed of a job that was done
abbrev pub printed : List ℕ → Result Printed Refusal
printed lines = Ok (record { whole = true; out = lines; err = [] })

-- the refusal of a word that gives the number of no watch
abbrev pub unknown_watch : List ℕ → Refusal
unknown_watch word = record { cause = NotThere; line = no_such_watch_line word }

-- what is printed of the watch that a word gives the number of, among the watches of a handset
abbrev pub explained_among : Tables → GridValue → List ℕ → List Watch → Result Printed Refusal
explained_among tables grid word watches =
    cond (ltb (number_of word) (length watches))
    (printed (watch_text tables grid (watch_at watches (number_of word)) (number_of word)))
    (Err (unknown_watch word))

-- the same by the plan of a handset
abbrev pub explained_by : RawCell → Tables → GridValue → List ℕ → ℕ → Result (List Watch) CommonOver → Result Printed Refusal
explained_by cell tables grid word handset (Ok watches) = explained_among tables grid word watches
explained_by cell tables grid word handset (Err over) = Err (over_limits cell handset over)

-- the same of the handset that was found by its name, or that there is none
abbrev pub explained_of : RawCell → Tables → GridValue → List ℕ → List ℕ → Option ℕ → Result Printed Refusal
explained_of cell tables grid name word (Some handset) =
    explained_by cell tables grid word handset (planned cell handset grid.frame grid.slot)
explained_of cell tables grid name word None = Err (unknown_handset name)

-- what `explain` prints of a grid of the cell: the handset with a name, then its plan in the slot, then the watch
unfoldable pub explained : RawCell → Tables → GridValue → List ℕ → List ℕ → Result Printed Refusal
explained cell tables grid name word = explained_of cell tables grid name word (handset_named cell name)
