-- The outcome of a command that takes settings, file by file: where a file is read, the run goes on to the next.
use Rattle.std.proofs.Common.{◌≡◌, ◌≤◌, ℕ, true, List, [], ◌∷◌, Some, String, length, refl, ap, subst, ◌∙◌}
use Rattle.std.specs.declared.alloc.Global.{Global}
use Rattle.grant_file.specs.declared.grants.GrantList.{GrantList}
use Rattle.rrc_settings.specs.declared.settings.RawCell.{RawCell}
use Rattle.slot_grid.specs.Grid.{GridValue}
use Rattle.table_files.specs.declared.tables.Tables.{Tables}
use Rattle.run_steps.specs.Outcome.{Outcome, Fetched, Bytes, ended, given_of, limit, reading}
use Rattle.run_steps.proofs.Taking.{given_of_within}
use Rattle.pdcch_app.specs.declared.words.Command.{Command}
use Rattle.pdcch_app.specs.declared.words.Command.TheVariants.{Write, Search, Explain, Sweep}
use Rattle.pdcch_app.specs.Causes.{AreSettings, IsTable, ReadSettings, ReadReliability, ReadTables, ReadGrants, ReadGrid}
use Rattle.pdcch_app.specs.Causes.{IsGridOf, WasRead, takes_grid, takes_settings}
use Rattle.pdcch_app.specs.Checks.{settings_of, reliability_of, input_order_of, grants_of, grid_of}
use Rattle.pdcch_app.specs.Outcomes.{both, outcome, served}
use Rattle.pdcch_app.specs.Words.{file, legal}
use Rattle.pdcch_app.specs.Writing.{written}
use Rattle.pdcch_app.proofs.FilesRead.{file_read, settings_check, reliability_check, input_order_check, grants_check, grid_check}
use Rattle.pdcch_app.proofs.GridJobs.{grid_job}

-- the last file of a command that takes settings, and its job: grants for `write`, or else a grid
abbrev pub after_tables : Command → List (String Global) → RawCell → Tables → List Fetched → Outcome
after_tables Write words cell tables =
    reading (grants_of cell) (file Write words 3) (λ list _. ended (written cell tables list))
after_tables command words cell tables =
    reading (grid_of cell) (file command words 3) (λ points _. ended (grid_job command words cell tables points))

-- what follows the third file, by the numbers of both tables
abbrev pub after_input_order : Command → List (String Global) → RawCell → List ℕ → List ℕ → List Fetched → Outcome
after_input_order command words cell numbers order = after_tables command words cell (both numbers order)

-- what follows the second file: the third, and what follows that
abbrev pub after_reliability : Command → List (String Global) → RawCell → List ℕ → List Fetched → Outcome
after_reliability command words cell numbers =
    reading input_order_of (file command words 2) (after_input_order command words cell numbers)

-- what follows the first file
abbrev pub after_settings : Command → List (String Global) → RawCell → List Fetched → Outcome
after_settings command words cell = reading reliability_of (file command words 1) (after_reliability command words cell)

-- all files in their order
abbrev pub in_order : Command → List (String Global) → List Fetched → Outcome
in_order command words = reading settings_of (file command words 0) (after_settings command words)

-- the outcome of a command that takes settings has its files in this order
pub served_is : (command : Command) (words : List (String Global)) (gave : List Fetched) → takes_settings command ≡ true
    → served (Some command) words gave ≡ in_order command words gave
served_is Write words gave s = refl
served_is Search words gave s = refl
served_is Explain words gave s = refl
served_is Sweep words gave s = absurd (let f : ⊥ = cc in f)

-- the last file is a grid where the command takes one
pub after_tables-grid : (command : Command) (words : List (String Global)) (cell : RawCell) (tables : Tables)
    (left : List Fetched) → takes_grid command ≡ true
    → after_tables command words cell tables left
    ≡ reading (grid_of cell) (file command words 3) (λ points _. ended (grid_job command words cell tables points)) left
after_tables-grid Write words cell tables left g = absurd (let f : ⊥ = cc in f)
after_tables-grid Search words cell tables left g = refl
after_tables-grid Explain words cell tables left g = refl
after_tables-grid Sweep words cell tables left g = absurd (let f : ⊥ = cc in f)

-- a command that takes a grid takes settings
pub grid_settings : (command : Command) → takes_grid command ≡ true → takes_settings command ≡ true
grid_settings Write g = refl
grid_settings Search g = refl
grid_settings Explain g = refl
grid_settings Sweep g = g

-- legal words of a command, over what each fetch gave
module _ (words : List (String Global)) (gave : List Fetched) (command : Command) (legal_is : legal words ≡ Some command) where
  -- the outcome of words is that of their command
  pub outcome-in_order : takes_settings command ≡ true → outcome words gave ≡ in_order command words gave
  outcome-in_order s = ap (λ c. served c words gave) legal_is ∙ served_is command words gave s

  -- where the settings are read
  pub settings_on : (cell : RawCell) (rest : List Fetched) → takes_settings command ≡ true → ReadSettings gave cell rest
      → outcome words gave ≡ after_settings command words cell rest
  settings_on cell rest s read =
      outcome-in_order s ∙ ap (in_order command words) read.before
      ∙ file_read settings_check (file command words 0) (after_settings command words) read.bytes rest cell read.is

  -- where the reliability table is read too
  pub reliability_on : (cell : RawCell) (numbers : List ℕ) (rest : List Fetched) → takes_settings command ≡ true
      → ReadReliability gave cell numbers rest → outcome words gave ≡ after_reliability command words cell numbers rest
  reliability_on cell numbers rest s read =
      settings_on cell (Bytes read.bytes ∷ rest) s read.before
      ∙ file_read reliability_check (file command words 1) (after_reliability command words cell) read.bytes rest numbers read.is

  -- where both tables are
  pub tables_on : (cell : RawCell) (tables : Tables) (rest : List Fetched) → takes_settings command ≡ true
      → ReadTables gave cell tables rest → outcome words gave ≡ after_tables command words cell tables rest
  tables_on cell tables rest s read =
      reliability_on cell tables.reliability (Bytes read.bytes ∷ rest) s read.before
      ∙ file_read input_order_check (file command words 2) (after_input_order command words cell tables.reliability)
      read.bytes rest tables.input_order read.is

-- where the grants are read too, they are written
pub grants_on : (words : List (String Global)) (gave : List Fetched) (cell : RawCell) (tables : Tables) (list : GrantList)
    → legal words ≡ Some Write → ReadGrants gave cell tables list → outcome words gave ≡ ended (written cell tables list)
grants_on words gave cell tables list h read =
    tables_on words gave Write h cell tables (Bytes read.bytes ∷ []) refl read.before
    ∙ file_read (grants_check cell) (file Write words 3) (λ l _. ended (written cell tables l)) read.bytes [] list read.is

-- and where the grid is, the job of the command is done over it
pub grid_on : (words : List (String Global)) (gave : List Fetched) (command : Command) (cell : RawCell) (tables : Tables)
    (points : GridValue) → legal words ≡ Some command → takes_grid command ≡ true → ReadGrid gave cell tables points
    → outcome words gave ≡ ended (grid_job command words cell tables points)
grid_on words gave command cell tables points h g read =
    tables_on words gave command h cell tables (Bytes read.bytes ∷ []) (grid_settings command g) read.before
    ∙ after_tables-grid command words cell tables (Bytes read.bytes ∷ []) g
    ∙ file_read (grid_check cell) (file command words 3) (λ p _. ended (grid_job command words cell tables p)) read.bytes []
    points read.is

-- bytes within the limit are read as they are, behind what came before
pub read_within : {A : Type 0} (Is : List ℕ → A → Type 0) (Came : List Fetched → Type 0) (value : A) (rest : List Fetched)
    (bytes : List ℕ) → length bytes ≤ limit → Came (given_of bytes ∷ rest) → Is bytes value → WasRead Is Came value rest
read_within Is Came value rest bytes few came is =
    record { bytes = bytes; before = subst (λ (entry : Fetched). Came (entry ∷ rest)) (given_of_within bytes few) came; is = is }

-- legal settings and two tables within the limit are read as they are
pub tables_read : (settings reliability input_order : List ℕ) (cell : RawCell) (tables : Tables) (rest : List Fetched)
    → length settings ≤ limit → length reliability ≤ limit → length input_order ≤ limit
    → AreSettings settings cell → IsTable 1024 reliability tables.reliability → IsTable 164 input_order tables.input_order
    → ReadTables (given_of settings ∷ given_of reliability ∷ given_of input_order ∷ rest) cell tables rest
tables_read settings reliability input_order cell tables rest hs hr hi s r i =
    let gave = given_of settings ∷ given_of reliability ∷ given_of input_order ∷ rest in
    read_within (IsTable 164) (ReadReliability gave cell tables.reliability) tables.input_order rest input_order hi
    (read_within (IsTable 1024) (ReadSettings gave cell) tables.reliability (given_of input_order ∷ rest) reliability hr
    (read_within AreSettings (◌≡◌ gave) cell (given_of reliability ∷ given_of input_order ∷ rest) settings hs refl s) r) i

-- so is a grid of the cell behind them, and the job of the command is done over it
pub grid_given : (words : List (String Global)) (settings reliability input_order grid : List ℕ) (command : Command)
    (cell : RawCell) (tables : Tables) (points : GridValue) → legal words ≡ Some command → takes_grid command ≡ true
    → length settings ≤ limit → length reliability ≤ limit → length input_order ≤ limit → length grid ≤ limit
    → AreSettings settings cell → IsTable 1024 reliability tables.reliability → IsTable 164 input_order tables.input_order
    → IsGridOf cell grid points
    → outcome words (given_of settings ∷ given_of reliability ∷ given_of input_order ∷ given_of grid ∷ [])
    ≡ ended (grid_job command words cell tables points)
grid_given words settings reliability input_order grid command cell tables points h takes hs hr hi hg s r i g =
    let gave = given_of settings ∷ given_of reliability ∷ given_of input_order ∷ given_of grid ∷ [] in
    grid_on words gave command cell tables points h takes
    (read_within (IsGridOf cell) (ReadTables gave cell tables) points [] grid hg
    (tables_read settings reliability input_order cell tables (given_of grid ∷ []) hs hr hi s r i) g)
