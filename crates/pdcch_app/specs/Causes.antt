-- Why a run ends as it does: for each status its cause, in words of its own, over the words and what each fetch gave.
use Rattle.std.specs.Prelude.{◌≡◌, ◌<◌, ◌≤◌, ◌⊎◌, ℕ, Bool, true, false, List, [], ◌∷◌, Option, Some, None, Result, Ok}
use Rattle.std.specs.Prelude.{Err, length, slice_get, String}
use Rattle.std.specs.declared.alloc.Global.{Global}
use Rattle.rrc_settings.specs.declared.settings.RawCell.{RawCell}
use Rattle.rrc_settings.specs.HandsetsOfCell.{handset_at}
use Rattle.settings_json.specs.First.{first_fault_in, raw_in}
use Rattle.table_files.specs.TableText.{read_table}
use Rattle.table_files.specs.declared.fault.TableFault.{TableFault}
use Rattle.table_files.specs.declared.tables.Tables.{Tables}
use Rattle.grant_file.specs.First.{first_fault_in as first_grants_fault, grants_in}
use Rattle.grant_file.specs.declared.grants.GrantList.{GrantList}
use Rattle.grid_file.specs.FoundGrid.{reading_of}
use Rattle.slot_grid.specs.Grid.{GridValue}
use Rattle.monitor_budget.specs.declared.allotment.CommonOver.{CommonOver}
use Rattle.monitor_plan.specs.declared.watch.Watch.{Watch}
use Rattle.monitor_plan.specs.Planned.{planned}
use Rattle.cell_placer.specs.declared.refusal.Placed.{Placed}
use Rattle.cell_placer.specs.declared.refusal.Refusal.{Refusal}
use Rattle.cell_placer.specs.Opened.{opened}
use Rattle.cell_placer.specs.Placing.{DeskValue, fates}
use Rattle.run_steps.specs.declared.statuses.Status.{Status}
use Rattle.run_steps.specs.declared.statuses.Status.TheVariants as ends
use Rattle.run_steps.specs.Outcome.{Fetched, Bytes, TooLong, Fault}
use Rattle.pdcch_app.specs.declared.words.Command.{Command}
use Rattle.pdcch_app.specs.declared.words.Command.TheVariants.{Write, Search, Explain, Sweep}
use Rattle.pdcch_app.specs.Arguments.{number_of}
use Rattle.pdcch_app.specs.Reporting.{handset_named}
use Rattle.pdcch_app.specs.Words.{legal, handset, watch}

-- a first fault was found
pub record HasFault {F : Type 0} (found : Option F) : Type 0 where
  pub fault : F
  pub is : found ≡ Some fault

-- no fault was found, and what was read is this value
pub record IsSound {F A : Type 0} (found : Option F) (read value : A) : Type 0 where
  pub sound : found ≡ None
  pub is : value ≡ read

-- bytes that are the legal settings of a cell
abbrev pub AreSettings : List ℕ → RawCell → Type 0
AreSettings bytes = IsSound (first_fault_in bytes) (raw_in bytes)

-- bytes that are no legal settings
abbrev pub AreNoSettings : List ℕ → Type 0
AreNoSettings bytes = HasFault (first_fault_in bytes)

-- bytes that are a table of so many numbers
abbrev pub IsTable : ℕ → List ℕ → List ℕ → Type 0
IsTable count bytes numbers = read_table count bytes ≡ Ok numbers

-- bytes that are none
pub record IsNoTable (count : ℕ) (bytes : List ℕ) : Type 0 where
  pub fault : TableFault
  pub is : read_table count bytes ≡ Err fault

-- bytes that are the grants of a slot of the cell
abbrev pub AreGrants : RawCell → List ℕ → GrantList → Type 0
AreGrants cell bytes = IsSound (first_grants_fault cell.mu bytes) (grants_in bytes)

-- bytes that are no grants of a slot of the cell
abbrev pub AreNoGrants : RawCell → List ℕ → Type 0
AreNoGrants cell bytes = HasFault (first_grants_fault cell.mu bytes)

-- bytes that are a grid of the cell
pub record IsGridOf (cell : RawCell) (bytes : List ℕ) (points : GridValue) : Type 0 where
  pub is : reading_of bytes ≡ Ok points
  pub mu : points.mu ≡ cell.mu
  pub blocks : points.blocks ≡ cell.blocks

-- bytes that are no grid of a cell: no grid's text, or a grid of another numerology or of another number of blocks
pub data IsNoGridOf (cell : RawCell) (bytes : List ℕ) : Type 0 where
  NoText : (at : ℕ) → reading_of bytes ≡ Err at → IsNoGridOf cell bytes
  OtherMu : (points : GridValue) → reading_of bytes ≡ Ok points → (points.mu ≡ cell.mu → ⊥) → IsNoGridOf cell bytes
  OtherBlocks : (points : GridValue) → reading_of bytes ≡ Ok points → (points.blocks ≡ cell.blocks → ⊥) → IsNoGridOf cell bytes

-- a file that a run came to so was read as a value; the rest is what the later fetches gave
pub record WasRead {A : Type 0} (Is : List ℕ → A → Type 0) (Came : List Fetched → Type 0) (value : A) (rest : List Fetched)
    : Type 0 where
  pub bytes : List ℕ
  pub before : Came (Bytes bytes ∷ rest)
  pub is : Is bytes value

-- a file that a run came to so is at fault
pub record WasFaulty (AtFault : List ℕ → Type 0) (Came : List Fetched → Type 0) (rest : List Fetched) : Type 0 where
  pub bytes : List ℕ
  pub before : Came (Bytes bytes ∷ rest)
  pub found : AtFault bytes

-- the first file was read as the settings of a cell
abbrev pub ReadSettings : List Fetched → RawCell → List Fetched → Type 0
ReadSettings gave = WasRead AreSettings (◌≡◌ gave)

-- the settings were read, and then the second file as the numbers of a reliability table
abbrev pub ReadReliability : List Fetched → RawCell → List ℕ → List Fetched → Type 0
ReadReliability gave cell = WasRead (IsTable 1024) (ReadSettings gave cell)

-- the settings and the reliability table were read, and then the third file as the numbers of an input order
abbrev pub ReadTables : List Fetched → RawCell → Tables → List Fetched → Type 0
ReadTables gave cell tables = WasRead (IsTable 164) (ReadReliability gave cell tables.reliability) tables.input_order

-- the settings and both tables were read, and then the last file as the grants of a slot of the cell
abbrev pub ReadGrants : List Fetched → RawCell → Tables → GrantList → Type 0
ReadGrants gave cell tables list = WasRead (AreGrants cell) (ReadTables gave cell tables) list []

-- the settings and both tables were read, and then the last file as a grid of the cell
abbrev pub ReadGrid : List Fetched → RawCell → Tables → GridValue → Type 0
ReadGrid gave cell tables points = WasRead (IsGridOf cell) (ReadTables gave cell tables) points []

-- the first file of a command is settings
abbrev pub takes_settings : Command → Bool
takes_settings Write = true
takes_settings Search = true
takes_settings Explain = true
takes_settings Sweep = false

-- the first file was read as the numbers of a reliability table
abbrev pub ReadFirstTable : List Fetched → List ℕ → List Fetched → Type 0
ReadFirstTable gave = WasRead (IsTable 1024) (◌≡◌ gave)

-- the reliability table was read, and then the second file, which is the last, as the numbers of an input order
abbrev pub ReadBothTables : List Fetched → Tables → Type 0
ReadBothTables gave tables = WasRead (IsTable 164) (ReadFirstTable gave tables.reliability) tables.input_order []

-- a run of the command came to a file whose fetch gave this: every file before it was read, the settings or the first table first
pub data CameTo (command : Command) (gave : List Fetched) (entry : Fetched) : Type 0 where
  First : (rest : List Fetched) → gave ≡ entry ∷ rest → CameTo command gave entry
  Second : (cell : RawCell) (rest : List Fetched) → takes_settings command ≡ true → ReadSettings gave cell (entry ∷ rest)
      → CameTo command gave entry
  Third : (cell : RawCell) (numbers : List ℕ) (rest : List Fetched) → takes_settings command ≡ true
      → ReadReliability gave cell numbers (entry ∷ rest) → CameTo command gave entry
  Fourth : (cell : RawCell) (tables : Tables) → takes_settings command ≡ true → ReadTables gave cell tables (entry ∷ [])
      → CameTo command gave entry
  SecondTable : (numbers : List ℕ) → takes_settings command ≡ false → ReadFirstTable gave numbers (entry ∷ [])
      → CameTo command gave entry

-- the words are of no command
abbrev pub WordsAreFaulty : List (String Global) → List Fetched → Type 0
WordsAreFaulty words gave = legal words ≡ None

-- the words are of a command whose first file is settings, and this file is no legal settings
pub record SettingsAreFaulty (words : List (String Global)) (gave : List Fetched) : Type 0 where
  pub command : Command
  pub legal_is : legal words ≡ Some command
  pub settings : takes_settings command ≡ true
  pub rest : List Fetched
  pub file : WasFaulty AreNoSettings (◌≡◌ gave) rest

-- one of the two tables is none, where every file before it was read: the tables follow the settings, where the command takes
-- them
pub data SomeTableIsFaulty (command : Command) (gave : List Fetched) : Type 0 where
  NoReliability : (cell : RawCell) (rest : List Fetched) → takes_settings command ≡ true
      → WasFaulty (IsNoTable 1024) (ReadSettings gave cell) rest → SomeTableIsFaulty command gave
  NoInputOrder : (cell : RawCell) (numbers : List ℕ) (rest : List Fetched) → takes_settings command ≡ true
      → WasFaulty (IsNoTable 164) (ReadReliability gave cell numbers) rest → SomeTableIsFaulty command gave
  NoFirstTable : (rest : List Fetched) → takes_settings command ≡ false
      → WasFaulty (IsNoTable 1024) (◌≡◌ gave) rest → SomeTableIsFaulty command gave
  NoSecondTable : (numbers : List ℕ) → takes_settings command ≡ false
      → WasFaulty (IsNoTable 164) (ReadFirstTable gave numbers) [] → SomeTableIsFaulty command gave

-- so it is for the command of the words
pub record TableIsFaulty (words : List (String Global)) (gave : List Fetched) : Type 0 where
  pub command : Command
  pub legal_is : legal words ≡ Some command
  pub table : SomeTableIsFaulty command gave

-- the settings and both tables were read for `write`, and the last file is no grants of a slot of the cell
pub record GrantsAreFaulty (words : List (String Global)) (gave : List Fetched) : Type 0 where
  pub legal_is : legal words ≡ Some Write
  pub cell : RawCell
  pub tables : Tables
  pub file : WasFaulty (AreNoGrants cell) (ReadTables gave cell tables) []

-- the last file of a command is a grid
abbrev pub takes_grid : Command → Bool
takes_grid Write = false
takes_grid Search = true
takes_grid Explain = true
takes_grid Sweep = false

-- the words are of a command whose last file is a grid: `search` or `explain`
pub record TakesGrid (words : List (String Global)) : Type 0 where
  pub command : Command
  pub legal_is : legal words ≡ Some command
  pub grid : takes_grid command ≡ true

-- the settings and both tables were read for such a command, and the last file is no grid of the cell
pub record GridIsFaulty (words : List (String Global)) (gave : List Fetched) : Type 0 where
  pub takes : TakesGrid words
  pub cell : RawCell
  pub tables : Tables
  pub file : WasFaulty (IsNoGridOf cell) (ReadTables gave cell tables) []

-- a fetch gave this, of a file that the run came to
pub record Meets (entry : Fetched) (words : List (String Global)) (gave : List Fetched) : Type 0 where
  pub command : Command
  pub legal_is : legal words ≡ Some command
  pub file : CameTo command gave entry

-- a handset of the cell has the name
pub record IsNamed (cell : RawCell) (name : List ℕ) : Type 0 where
  pub handset : ℕ
  pub within : handset < length cell.handsets
  pub is : (handset_at cell handset).name ≡ name

-- every file was read, the last as a grid of the cell
pub record HasGrid (gave : List Fetched) : Type 0 where
  pub cell : RawCell
  pub tables : Tables
  pub points : GridValue
  pub read : ReadGrid gave cell tables points

-- every file of `search` or of `explain` was read, and the words name a handset that the cell does not have
pub record HandsetIsUnknown (words : List (String Global)) (gave : List Fetched) : Type 0 where
  pub takes : TakesGrid words
  pub grid : HasGrid gave
  pub name : List ℕ
  pub named : handset words ≡ Some name
  pub unknown : IsNamed grid.cell name → ⊥

-- a handset of the cell, of the name that the words give, has these watches in the slot of the grid, and the words give a number
pub record AsksWatch (words : List (String Global)) (cell : RawCell) (points : GridValue) (watches : List Watch)
    (word : List ℕ) : Type 0 where
  pub name : List ℕ
  pub named : handset words ≡ Some name
  pub handset : ℕ
  pub served : handset_named cell name ≡ Some handset
  pub planned_is : planned cell handset points.frame points.slot ≡ Ok watches
  pub asked : watch words ≡ Some word

-- every file of `explain` was read, and the handset that the words name has its watches in the slot of the grid
pub record HasWatches (words : List (String Global)) (gave : List Fetched) : Type 0 where
  pub legal_is : legal words ≡ Some Explain
  pub grid : HasGrid gave
  pub watches : List Watch
  pub word : List ℕ
  pub asks : AsksWatch words grid.cell grid.points watches word

-- so it is, and the number that the words give is not below the number of these watches: the handset has no such watch
pub record WatchIsUnknown (words : List (String Global)) (gave : List Fetched) : Type 0 where
  pub asked : HasWatches words gave
  pub beyond : length asked.watches ≤ number_of asked.word

-- the words name a handset that the cell does not have, or a watch that the handset does not have
abbrev pub IsUnknown : List (String Global) → List Fetched → Type 0
IsUnknown words gave = HandsetIsUnknown words gave ⊎ WatchIsUnknown words gave

-- a handset that a command works for: the one with the name that is given, or any of the cell where none is given
abbrev pub IsServed : RawCell → Option (List ℕ) → ℕ → Type 0
IsServed cell (Some name) handset = handset_named cell name ≡ Some handset
IsServed cell None handset = handset < length cell.handsets

-- the common sets of a handset that the command works for exceed a limit in a slot of a frame
pub record SomeExceeds (cell : RawCell) (named : Option (List ℕ)) (frame slot : ℕ) : Type 0 where
  pub handset : ℕ
  pub served : IsServed cell named handset
  pub over : CommonOver
  pub is : planned cell handset frame slot ≡ Err over

-- every file was read, the last as the grants of a slot of the cell
pub record HasGrants (gave : List Fetched) : Type 0 where
  pub cell : RawCell
  pub tables : Tables
  pub list : GrantList
  pub read : ReadGrants gave cell tables list

-- every file of `write` was read, and the common sets of a handset of the cell exceed a limit in the slot of the grants
pub record WriteExceeds (words : List (String Global)) (gave : List Fetched) : Type 0 where
  pub legal_is : legal words ≡ Some Write
  pub grants : HasGrants gave
  pub over : SomeExceeds grants.cell None grants.list.frame grants.list.slot

-- every file of `search` or of `explain` was read, and the common sets of the handset that the words name, or of any where they
-- name none, exceed a limit in the slot of the grid
pub record GridExceeds (words : List (String Global)) (gave : List Fetched) : Type 0 where
  pub takes : TakesGrid words
  pub grid : HasGrid gave
  pub over : SomeExceeds grid.cell (handset words) grid.points.frame grid.points.slot

-- the slot is one in which the common sets of a handset exceed a limit
abbrev pub SlotIsExceeded : List (String Global) → List Fetched → Type 0
SlotIsExceeded words gave = WriteExceeds words gave ⊎ GridExceeds words gave

-- one of the answers to grants is a refusal
pub record SomeRefused (answers : List (Result Placed Refusal)) : Type 0 where
  pub number : ℕ
  pub refusal : Refusal
  pub is : slice_get answers number ≡ Some (Err refusal)

-- every file of `write` was read, and the slot of the grants has a desk
pub record IsReady (words : List (String Global)) (gave : List Fetched) : Type 0 where
  pub legal_is : legal words ≡ Some Write
  pub grants : HasGrants gave
  pub desk : DeskValue
  pub desk_is : opened grants.cell grants.list.frame grants.list.slot (length grants.list.grants) ≡ Ok desk

-- the grants were written, but for one or more that were refused
pub record WriteRefusesSome (words : List (String Global)) (gave : List Fetched) : Type 0 where
  pub ready : IsReady words gave
  pub some : SomeRefused (fates ready.desk.ledger ready.grants.list.grants)

-- all of the grants were written
pub record WriteIsDone (words : List (String Global)) (gave : List Fetched) : Type 0 where
  pub ready : IsReady words gave
  pub none : SomeRefused (fates ready.desk.ledger ready.grants.list.grants) → ⊥

-- every file of `search` was read, the cell has the handset that the words name, and the common sets of no reported handset
-- exceed a limit in the slot of the grid
pub record SearchIsDone (words : List (String Global)) (gave : List Fetched) : Type 0 where
  pub legal_is : legal words ≡ Some Search
  pub grid : HasGrid gave
  pub known : (name : List ℕ) → handset words ≡ Some name → IsNamed grid.cell name
  pub within : SomeExceeds grid.cell (handset words) grid.points.frame grid.points.slot → ⊥

-- every file of `explain` was read, the handset that the words name has its watches in the slot of the grid, and the number that
-- they give is that of one of these
pub record ExplainIsDone (words : List (String Global)) (gave : List Fetched) : Type 0 where
  pub asked : HasWatches words gave
  pub below : number_of asked.word < length asked.watches

-- both tables were read for `sweep`
pub record SweepIsDone (words : List (String Global)) (gave : List Fetched) : Type 0 where
  pub legal_is : legal words ≡ Some Sweep
  pub tables : Tables
  pub read : ReadBothTables gave tables

-- the job was done whole
abbrev pub JobIsDone : List (String Global) → List Fetched → Type 0
JobIsDone words gave = WriteIsDone words gave ⊎ (SearchIsDone words gave ⊎ (ExplainIsDone words gave ⊎ SweepIsDone words gave))

-- the cause of each status, with none for those that the words and the files do not decide
abbrev pub CauseOf : Status → List (String Global) → List Fetched → Type 0
CauseOf ends.Done words gave = JobIsDone words gave
CauseOf ends.Usage words gave = WordsAreFaulty words gave
CauseOf ends.GrantsRefused words gave = WriteRefusesSome words gave
CauseOf ends.SettingsRefused words gave = SettingsAreFaulty words gave
CauseOf ends.TableRefused words gave = TableIsFaulty words gave
CauseOf ends.GrantsFileRefused words gave = GrantsAreFaulty words gave
CauseOf ends.GridRefused words gave = GridIsFaulty words gave
CauseOf ends.ReadFault words gave = Meets Fault words gave
CauseOf ends.WriteFault words gave = ⊥
CauseOf ends.NoMemory words gave = ⊥
CauseOf ends.FileTooLong words gave = Meets TooLong words gave
CauseOf ends.NoSuch words gave = IsUnknown words gave
CauseOf ends.SlotRefused words gave = SlotIsExceeded words gave
