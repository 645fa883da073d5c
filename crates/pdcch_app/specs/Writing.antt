-- What `write` prints: the grid that the grants leave, and a line for each that was refused.
use Rattle.std.specs.Prelude.{◌≡◌, ℕ, ◌+◌, ◌<◌, Bool, true, false, List, [], ◌∷◌, ◌++◌, Result, Ok, Err, length}
use Rattle.std.specs.List.{list_all}
use Rattle.bits_core.specs.declared.NoMemory.{NoMemory as Want}
use Rattle.rrc_settings.specs.declared.settings.RawCell.{RawCell}
use Rattle.grant_file.specs.declared.grants.Grant.{Grant}
use Rattle.grant_file.specs.declared.grants.GrantList.{GrantList}
use Rattle.grid_file.specs.GridText.{grid_text}
use Rattle.table_files.specs.declared.tables.Tables.{Tables}
use Rattle.cell_placer.specs.declared.refusal.DeskFault.{DeskFault}
use Rattle.cell_placer.specs.declared.refusal.DeskFault.TheVariants.{CommonOver, NoMemory}
use Rattle.cell_placer.specs.declared.refusal.Placed.{Placed}
use Rattle.cell_placer.specs.declared.refusal.Refusal.{Refusal as Cause}
use Rattle.cell_placer.specs.Opened.{SlotOver, opened}
use Rattle.cell_placer.specs.Placing.{DeskValue, fates, desk_after}
use Rattle.report_text.specs.Refusal.{refusal_line}
use Rattle.rrc_settings.specs.HandsetsOfCell.{handset_at}
use Rattle.run_steps.specs.declared.statuses.Status.TheVariants.{SlotRefused}
use Rattle.run_steps.specs.declared.stops.Stop.{Stop}
use Rattle.run_steps.specs.declared.stops.Stop.TheVariants.{OutOfMemory}
use Rattle.run_steps.specs.Outcome.{Refusal, Printed, refused}
use Rattle.run_steps.specs.Steps.{IsStop}
use Rattle.pdcch_app.specs.Lines.{slot_line}
use Rattle.pdcch_app.specs.Reporting.{over_limits}

-- a grant was placed
abbrev pub is_placed : Result Placed Cause → Bool
is_placed (Ok placed) = true
is_placed (Err cause) = false

-- the line of a grant: none where it was placed
abbrev pub answer_line : ℕ → Grant → Result Placed Cause → List ℕ
answer_line number grant (Ok placed) = []
answer_line number grant (Err cause) = refusal_line number grant cause

-- the lines of the refused grants, the first of which has a number
unfoldable pub refusal_lines : ℕ → List Grant → List (Result Placed Cause) → List ℕ
refusal_lines number [] answers = []
refusal_lines number (grant ∷ grants) [] = []
refusal_lines number (grant ∷ grants) (answer ∷ answers) =
    answer_line number grant answer ++ refusal_lines (number + 1) grants answers

-- what is printed of grants that are placed on a desk one after the other
abbrev pub placed_on : Tables → List Grant → DeskValue → Printed
placed_on tables grants desk = record {
  whole = list_all is_placed (fates desk.ledger grants);
  out = grid_text (desk_after tables desk grants).grid;
  err = refusal_lines 0 grants (fates desk.ledger grants);
}

-- what is printed of grants for the desk of their slot, or the refusal of the slot
abbrev pub written_on : RawCell → Tables → List Grant → Result DeskValue SlotOver → Result Printed Refusal
written_on cell tables grants (Ok desk) = Ok (placed_on tables grants desk)
written_on cell tables grants (Err slot) = Err (over_limits cell slot.handset slot.over)

-- what `write` prints of the grants of a slot, with room for all of them
unfoldable pub written : RawCell → Tables → GrantList → Result Printed Refusal
written cell tables list = written_on cell tables list.grants (opened cell list.frame list.slot (length list.grants))

-- grants were placed on a desk, and the lines of the refused ones appended; the answer says whether all were placed
pub record ArePlaced (tables : Tables) (grants : List Grant) (old new : DeskValue) (lines_old lines_new : List ℕ)
    (all_placed : Bool) : Type 0 where
  pub desk : new ≡ desk_after tables old grants
  pub lines : lines_new ≡ lines_old ++ refusal_lines 0 grants (fates old.ledger grants)
  pub all : all_placed ≡ list_all is_placed (fates old.ledger grants)

-- the same, where memory sufficed
abbrev pub Answers : Tables → List Grant → DeskValue → DeskValue → List ℕ → List ℕ → Result Bool Want → Type 0
Answers tables grants old new lines_old lines_new (Ok all_placed) = ArePlaced tables grants old new lines_old lines_new all_placed
Answers tables grants old new lines_old lines_new (Err want) = Unit {0}

-- why there is no desk names a handset of the cell, where it names one
abbrev pub NamesHandset : RawCell → DeskFault → Type 0
NamesHandset cell (CommonOver handset candidates cces) = handset < length cell.handsets
NamesHandset cell NoMemory = Unit {0}

-- a stop says why there is no desk
abbrev pub IsRefusedBy : RawCell → DeskFault → Stop → Type 0
IsRefusedBy cell (CommonOver handset candidates cces) stop =
    IsStop (refused SlotRefused (slot_line (handset_at cell handset).name candidates cces)) stop
IsRefusedBy cell NoMemory stop = stop ≡ OutOfMemory
