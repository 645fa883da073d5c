-- What `search` prints: of each reported handset how many watches it has in the slot of the grid, and what it hears at them.
use Rattle.std.specs.Prelude.{◌≡◌, ℕ, true, List, [], ◌∷◌, ◌++◌, Option, Some, None, Result, Ok, Err, length, position, bytes_eq}
use Rattle.std.specs.List.{range_with_len, flat_map}
use Rattle.rrc_settings.specs.declared.settings.RawCell.{RawCell}
use Rattle.rrc_settings.specs.HandsetsOfCell.{handset_at}
use Rattle.monitor_budget.specs.declared.allotment.CommonOver.{CommonOver}
use Rattle.monitor_plan.specs.declared.watch.Watch.{Watch}
use Rattle.monitor_plan.specs.Planned.{planned}
use Rattle.slot_grid.specs.Grid.{GridValue}
use Rattle.table_files.specs.declared.tables.Tables.{Tables}
use Rattle.blind_search.specs.Report.{report_of}
use Rattle.report_text.specs.Head.{head_text}
use Rattle.report_text.specs.Report.{report_text}
use Rattle.run_steps.specs.declared.stops.Stop.{Stop}
use Rattle.run_steps.specs.declared.stops.Stop.TheVariants.{OutOfMemory, Ended}
use Rattle.run_steps.specs.Outcome.{Outcome, Refusal, Printed, NotThere, OverLimits, ended}
use Rattle.pdcch_app.specs.Lines.{no_such_handset_line, slot_line}

-- the handset with a name, by its place in the cell's list
abbrev pub handset_named : RawCell → List ℕ → Option ℕ
handset_named cell word = position (λ handset. bytes_eq handset.name word) cell.handsets

-- the refusal of a name that no handset has
abbrev pub unknown_handset : List ℕ → Refusal
unknown_handset word = record { cause = NotThere; line = no_such_handset_line word }

-- the handset that was found by its name, or that there is none
abbrev pub handset_found : List ℕ → Option ℕ → Result ℕ Refusal
handset_found word (Some handset) = Ok handset
handset_found word None = Err (unknown_handset word)

-- the same as a list
abbrev pub only_handset : List ℕ → Option ℕ → Result (List ℕ) Refusal
only_handset word (Some handset) = Ok (handset ∷ [])
only_handset word None = Err (unknown_handset word)

-- the handsets that are reported: the one that the words name, or else all of the cell in order
abbrev pub reported : RawCell → Option (List ℕ) → Result (List ℕ) Refusal
reported cell (Some word) = only_handset word (handset_named cell word)
reported cell None = Ok (range_with_len 0 (length cell.handsets))

-- the refusal of a slot in which the common sets of a handset exceed a limit
abbrev pub over_limits : RawCell → ℕ → CommonOver → Refusal
over_limits cell handset over =
    record { cause = OverLimits; line = slot_line (handset_at cell handset).name over.candidates over.cces }

-- the watches of a handset by its plan, or the refusal of its slot
abbrev pub watches_found : RawCell → ℕ → Result (List Watch) CommonOver → Result (List Watch) Refusal
watches_found cell handset (Ok watches) = Ok watches
watches_found cell handset (Err over) = Err (over_limits cell handset over)

-- a handset of the cell with its watches in a slot
pub record Listener : Type 0 where
  pub handset : ℕ
  pub watches : List Watch

-- a handset before others, each with its watches, or the refusal of the first whose common sets exceed a limit
abbrev pub listener_before : RawCell → ℕ → Result (List Watch) CommonOver → Result (List Listener) Refusal
    → Result (List Listener) Refusal
listener_before cell handset (Ok watches) (Ok others) = Ok (record { handset = handset; watches = watches } ∷ others)
listener_before cell handset (Ok watches) (Err refusal) = Err refusal
listener_before cell handset (Err over) others = Err (over_limits cell handset over)

-- handsets with their watches in a slot of a frame
abbrev pub listeners_of : RawCell → ℕ → ℕ → List ℕ → Result (List Listener) Refusal
listeners_of cell frame slot [] = Ok []
listeners_of cell frame slot (handset ∷ others) =
    listener_before cell handset (planned cell handset frame slot) (listeners_of cell frame slot others)

-- the lines of a handset
unfoldable pub listener_text : RawCell → Tables → GridValue → Listener → List ℕ
listener_text cell tables grid listener =
    report_text (handset_at cell listener.handset).name listener.watches (report_of tables grid listener.watches)

-- the report of handsets
abbrev pub reported_text : RawCell → Tables → GridValue → List Listener → List ℕ
reported_text cell tables grid listeners = head_text grid.frame grid.slot ++ flat_map (listener_text cell tables grid) listeners

-- what is printed of handsets with their watches, or their refusal
abbrev pub heard_by : RawCell → Tables → GridValue → Result (List Listener) Refusal → Result Printed Refusal
heard_by cell tables grid (Ok listeners) = Ok (record { whole = true; out = reported_text cell tables grid listeners; err = [] })
heard_by cell tables grid (Err refusal) = Err refusal

-- what is printed of the handsets at some places
abbrev pub heard_of_all : RawCell → Tables → GridValue → Result (List ℕ) Refusal → Result Printed Refusal
heard_of_all cell tables grid (Ok handsets) = heard_by cell tables grid (listeners_of cell grid.frame grid.slot handsets)
heard_of_all cell tables grid (Err refusal) = Err refusal

-- what `search` prints of a grid of the cell, where the words may name a handset
unfoldable pub searched : RawCell → Tables → GridValue → Option (List ℕ) → Result Printed Refusal
searched cell tables grid named = heard_of_all cell tables grid (reported cell named)

-- the lines of a handset with its watches in the slot of the grid were appended
pub record Appended (cell : RawCell) (tables : Tables) (grid : GridValue) (handset : ℕ) (old new : List ℕ) : Type 0 where
  pub watches : List Watch
  pub planned_is : planned cell handset grid.frame grid.slot ≡ Ok watches
  pub text : new ≡ old ++ listener_text cell tables grid (record { handset = handset; watches = watches })

-- the common sets of a handset exceed a limit in the slot of the grid, and the outcome says so
pub record IsOver (cell : RawCell) (grid : GridValue) (handset : ℕ) (outcome : Outcome) : Type 0 where
  pub over : CommonOver
  pub planned_is : planned cell handset grid.frame grid.slot ≡ Err over
  pub says : outcome ≡ ended (Err (over_limits cell handset over))

-- the lines of a handset were appended, or it has none, since its common sets exceed a limit; want of memory is free
abbrev pub Listens : RawCell → Tables → GridValue → ℕ → List ℕ → List ℕ → Result (Unit {0}) Stop → Type 0
Listens cell tables grid handset old new (Ok _) = Appended cell tables grid handset old new
Listens cell tables grid handset old new (Err (Ended o)) = IsOver cell grid handset o
Listens cell tables grid handset old new (Err OutOfMemory) = Unit {0}
