-- A run ends with a status exactly where the cause of that status is there.
use Rattle.std.proofs.Common.{◌≡◌, ◌⊎◌, inl, inr, ℕ, suc, ◌<◌, ◌≤◌, Bool, true, false, Some, List, [], ◌∷◌, Ok, String, length}
use Rattle.std.proofs.Common.{refl, sym, ap, subst, ◌∙◌}
use Rattle.std.specs.declared.alloc.Global.{Global}
use Rattle.outside.specs.Views.{ShelfView}
use Rattle.rrc_settings.specs.declared.settings.RawCell.{RawCell}
use Rattle.table_files.specs.declared.tables.Tables.{Tables}
use Rattle.monitor_plan.specs.declared.watch.Watch.{Watch}
use Rattle.cell_placer.specs.Opened.{opened}
use Rattle.cell_placer.specs.Placing.{DeskValue, fates}
use Rattle.run_steps.specs.declared.statuses.Status.{Status}
use Rattle.run_steps.specs.declared.statuses.Status.TheVariants as ends
use Rattle.run_steps.specs.Outcome.{Outcome, Fetched, Bytes, TooLong, Fault, ended, is_cause, no_memory}
use Rattle.run_steps.specs.Steps.{AreGiven}
use Rattle.run_steps.proofs.RunPromises.{ends_with}
use Rattle.pdcch_app.specs.declared.words.Command.{Command}
use Rattle.pdcch_app.specs.declared.words.Command.TheVariants.{Write, Search, Explain, Sweep}
use Rattle.pdcch_app.specs.Causes.{CameTo, First, Second, Third, Fourth, SecondTable, SomeTableIsFaulty, NoReliability}
use Rattle.pdcch_app.specs.Causes.{NoInputOrder, NoFirstTable, NoSecondTable, SomeRefused, IsReady, HasGrid, HasWatches}
use Rattle.pdcch_app.specs.Causes.{AsksWatch, Meets, CauseOf, TakesGrid, takes_settings}
use Rattle.pdcch_app.specs.Arguments.{number_of}
use Rattle.pdcch_app.specs.Checks.{settings_of, reliability_of, input_order_of, grants_of, grid_of}
use Rattle.pdcch_app.specs.Endings.{EndsByItsCause, EndsExactly}
use Rattle.pdcch_app.specs.Outcomes.{outcome}
use Rattle.pdcch_app.specs.Words.{legal, file, handset, named, slots}
use Rattle.pdcch_app.specs.Writing.{written}
use Rattle.pdcch_app.proofs.CausesFound.{cause_of_outcome}
use Rattle.pdcch_app.proofs.Exceeding.{a_desk}
use Rattle.pdcch_app.proofs.FilesRead.{file_refused, file_missed, missed_status, settings_check, reliability_check}
use Rattle.pdcch_app.proofs.FilesRead.{input_order_check, grants_check, grid_check}
use Rattle.pdcch_app.proofs.GridJobs.{grid_job, grid_job_ends, served_by_name, asked_by_name, asked_within, asked_below}
use Rattle.pdcch_app.proofs.GridJobs.{one_command}
use Rattle.pdcch_app.proofs.InOrder.{after_input_order, after_reliability, after_settings, after_tables, in_order}
use Rattle.pdcch_app.proofs.InOrder.{after_tables-grid, grid_settings, outcome-in_order, settings_on, reliability_on, tables_on}
use Rattle.pdcch_app.proofs.InOrder.{grants_on, grid_on}
use Rattle.pdcch_app.proofs.JobsDone.{write_ends}
use Rattle.pdcch_app.proofs.SweptTables.{status_in, sweeps, sweep_on, no_first_table, no_second_table, missed_first}
use Rattle.pdcch_app.proofs.SweptTables.{missed_second, swept_done}

-- a last file whose fetch gave no bytes ends a run
last_missed : (command : Command) (words : List (String Global)) (cell : RawCell) (tables : Tables) (entry : Fetched)
    (status : Status) → missed_status entry ≡ Some status
    → (after_tables command words cell tables (entry ∷ [])).status ≡ status
last_missed Write words cell tables entry status m =
    file_missed (grants_of cell) (file Write words 3) (λ list _. ended (written cell tables list)) entry [] status m
last_missed Search words cell tables entry status m =
    file_missed (grid_of cell) (file Search words 3) (λ points _. ended (grid_job Search words cell tables points)) entry []
    status m
last_missed Explain words cell tables entry status m =
    file_missed (grid_of cell) (file Explain words 3) (λ points _. ended (grid_job Explain words cell tables points)) entry []
    status m
last_missed Sweep words cell tables entry status m =
    file_missed (grid_of cell) (file Sweep words 3) (λ points _. ended (grid_job Sweep words cell tables points)) entry []
    status m

-- legal words of a command, over what each fetch gave
module _ (words : List (String Global)) (gave : List Fetched) (command : Command) (legal_is : legal words ≡ Some command) where
  -- so does any file that was missed
  meets_by : (entry : Fetched) (status : Status) → missed_status entry ≡ Some status → (takes : Bool)
      → takes_settings command ≡ takes → CameTo command gave entry
      → (outcome words gave).status ≡ status
  meets_by entry status m true t (First rest e) =
      ap status_in (outcome-in_order words gave command legal_is t ∙ ap (in_order command words) e)
      ∙ file_missed settings_of (file command words 0) (after_settings command words) entry rest status m
  meets_by entry status m false t (First rest e) =
      missed_first words gave (sweeps words command legal_is t) entry rest status m e
  meets_by entry status m takes t (Second cell rest s read) =
      ap status_in (settings_on words gave command legal_is cell (entry ∷ rest) s read)
      ∙ file_missed reliability_of (file command words 1) (after_reliability command words cell) entry rest status m
  meets_by entry status m takes t (Third cell numbers rest s read) =
      ap status_in (reliability_on words gave command legal_is cell numbers (entry ∷ rest) s read)
      ∙ file_missed input_order_of (file command words 2) (after_input_order command words cell numbers) entry rest status m
  meets_by entry status m takes t (Fourth cell tables s read) =
      ap status_in (tables_on words gave command legal_is cell tables (entry ∷ []) s read)
      ∙ last_missed command words cell tables entry status m
  meets_by entry status m takes t (SecondTable numbers s read) =
      missed_second words gave (sweeps words command legal_is s) numbers entry status m read

  -- and a table that is none
  table_status : SomeTableIsFaulty command gave → (outcome words gave).status ≡ ends.TableRefused
  table_status (NoReliability cell rest s f) =
      ap status_in (settings_on words gave command legal_is cell (Bytes f.bytes ∷ rest) s f.before)
      ∙ file_refused reliability_check (file command words 1) (after_reliability command words cell) f.bytes rest f.found
  table_status (NoInputOrder cell numbers rest s f) =
      ap status_in (reliability_on words gave command legal_is cell numbers (Bytes f.bytes ∷ rest) s f.before)
      ∙ file_refused input_order_check (file command words 2) (after_input_order command words cell numbers) f.bytes rest f.found
  table_status (NoFirstTable rest s f) = no_first_table words gave (sweeps words command legal_is s) rest f
  table_status (NoSecondTable numbers s f) = no_second_table words gave (sweeps words command legal_is s) numbers f

meets_ends : (words : List (String Global)) (gave : List Fetched) (entry : Fetched) (status : Status)
    → missed_status entry ≡ Some status → Meets entry words gave
    → (outcome words gave).status ≡ status
meets_ends words gave entry status m c =
    meets_by words gave c.command c.legal_is entry status m (takes_settings c.command) refl c.file

-- a desk of the slot is the one desk of it
desk_is : (words : List (String Global)) (gave : List Fetched) (ready : IsReady words gave) (other : DeskValue)
    → opened ready.grants.cell ready.grants.list.frame ready.grants.list.slot (length ready.grants.list.grants) ≡ Ok other
    → other ≡ ready.desk
desk_is words gave ready other e = let both_are = sym e ∙ ready.desk_is in cc

-- a slot that has a desk is not refused, and its answers are those of the desk
ready_ends : (C : Status → Type 0) (words : List (String Global)) (gave : List Fetched) (ready : IsReady words gave)
    → (SomeRefused (fates ready.desk.ledger ready.grants.list.grants) → C ends.GrantsRefused)
    → ((SomeRefused (fates ready.desk.ledger ready.grants.list.grants) → ⊥) → C ends.Done)
    → C (outcome words gave).status
ready_ends C words gave ready some none =
    let g = ready.grants in
    let Refuses : DeskValue → Type 0 = λ desk. SomeRefused (fates desk.ledger g.list.grants) in
    subst C (sym (ap status_in (grants_on words gave g.cell g.tables g.list ready.legal_is g.read)))
    (write_ends C g.cell g.tables g.list
    (λ over. absurd (a_desk g.cell g.list ready.desk ready.desk_is over))
    (λ desk d refused. some (subst Refuses (desk_is words gave ready desk d) refused))
    (λ desk d all. none (λ refused. all (subst Refuses (sym (desk_is words gave ready desk d)) refused))))

-- the job over a grid that was read, whatever it is
grid_status : (C : Status → Type 0) (words : List (String Global)) (gave : List Fetched) (takes : TakesGrid words)
    (grid : HasGrid gave) → C (ended (grid_job takes.command words grid.cell grid.tables grid.points)).status
    → C (outcome words gave).status
grid_status C words gave takes grid is =
    subst C (sym (ap status_in (grid_on words gave takes.command grid.cell grid.tables grid.points takes.legal_is takes.grid
    grid.read))) is

-- a status is this one
abbrev IsEnd : Status → Status → Type 0
IsEnd wanted status = status ≡ wanted

-- `explain` with the watches of its handset ends by the number that the words give
asked_job : (C : Status → Type 0) (words : List (String Global)) (gave : List Fetched) (asked : HasWatches words gave)
    → ((watches : List Watch) (word : List ℕ) → AsksWatch words asked.grid.cell asked.grid.points watches word
    → length watches ≤ number_of word → C ends.NoSuch)
    → ((watches : List Watch) (word : List ℕ) → AsksWatch words asked.grid.cell asked.grid.points watches word
    → number_of word < length watches → C ends.Done)
    → C (outcome words gave).status
asked_job C words gave asked unknown told =
    let g = asked.grid in
    let takes : TakesGrid words = record { command = Explain; legal_is = asked.legal_is; grid = refl } in
    grid_status C words gave takes g
    (grid_job_ends C words Explain g.cell g.tables g.points asked.legal_is refl
    (λ name e none. absurd (none (asked_by_name words g.cell g.points asked.watches asked.word name e asked.asks)))
    (λ over. absurd (asked_within words g.cell g.points asked.watches asked.word asked.asks over))
    (λ watches word own asks beyond. unknown watches word asks beyond)
    (λ own known none. absurd (one_command words own asked.legal_is))
    (λ watches word own asks below. told watches word asks below))

-- each cause ends the run with its status
status_by : (words : List (String Global)) (gave : List Fetched) (status : Status) → CauseOf status words gave
    → (outcome words gave).status ≡ status
status_by words gave ends.Usage c = rw c refl
status_by words gave ends.SettingsRefused c =
    ap status_in (outcome-in_order words gave c.command c.legal_is c.settings ∙ ap (in_order c.command words) c.file.before)
    ∙ file_refused settings_check (file c.command words 0) (after_settings c.command words) c.file.bytes c.rest c.file.found
status_by words gave ends.TableRefused c = table_status words gave c.command c.legal_is c.table
status_by words gave ends.GrantsFileRefused c =
    ap status_in (tables_on words gave Write c.legal_is c.cell c.tables (Bytes c.file.bytes ∷ []) refl c.file.before)
    ∙ file_refused (grants_check c.cell) (file Write words 3) (λ list _. ended (written c.cell c.tables list)) c.file.bytes []
    c.file.found
status_by words gave ends.GridRefused c =
    let t = c.takes in
    let left = Bytes c.file.bytes ∷ [] in
    ap status_in (tables_on words gave t.command t.legal_is c.cell c.tables left (grid_settings t.command t.grid) c.file.before
    ∙ after_tables-grid t.command words c.cell c.tables left t.grid)
    ∙ file_refused (grid_check c.cell) (file t.command words 3)
    (λ points _. ended (grid_job t.command words c.cell c.tables points)) c.file.bytes [] c.file.found
status_by words gave ends.ReadFault c = meets_ends words gave Fault ends.ReadFault refl c
status_by words gave ends.FileTooLong c = meets_ends words gave TooLong ends.FileTooLong refl c
status_by words gave ends.NoSuch (inl c) =
    let t = c.takes in
    let g = c.grid in
    grid_status (IsEnd ends.NoSuch) words gave t g
    (grid_job_ends (IsEnd ends.NoSuch) words t.command g.cell g.tables g.points t.legal_is t.grid
    (λ name e unknown. refl)
    (λ over. absurd (c.unknown (served_by_name g.cell g.points.frame g.points.slot (handset words) c.name c.named over)))
    (λ watches word own asks beyond. refl) (λ own known none. absurd (c.unknown (known c.name c.named)))
    (λ watches word own asks below. absurd (c.unknown (asked_by_name words g.cell g.points watches word c.name c.named asks))))
status_by words gave ends.NoSuch (inr c) =
    let a = c.asked in
    asked_job (IsEnd ends.NoSuch) words gave a (λ watches word asks beyond. refl)
    (λ watches word asks below. absurd
    (asked_below words a.grid.cell a.grid.points watches a.watches word a.word asks below a.asks c.beyond))
status_by words gave ends.SlotRefused (inl c) =
    let g = c.grants in
    ap status_in (grants_on words gave g.cell g.tables g.list c.legal_is g.read)
    ∙ write_ends (IsEnd ends.SlotRefused) g.cell g.tables g.list (λ over. refl)
    (λ desk d some. absurd (a_desk g.cell g.list desk d c.over))
    (λ desk d none. absurd (a_desk g.cell g.list desk d c.over))
status_by words gave ends.SlotRefused (inr c) =
    let t = c.takes in
    let g = c.grid in
    grid_status (IsEnd ends.SlotRefused) words gave t g
    (grid_job_ends (IsEnd ends.SlotRefused) words t.command g.cell g.tables g.points t.legal_is t.grid
    (λ name e unknown. absurd (unknown (served_by_name g.cell g.points.frame g.points.slot (handset words) name e c.over)))
    (λ over. refl)
    (λ watches word own asks beyond. absurd (asked_within words g.cell g.points watches word asks c.over))
    (λ own known none. absurd (none c.over))
    (λ watches word own asks below. absurd (asked_within words g.cell g.points watches word asks c.over)))
status_by words gave ends.GrantsRefused c =
    ready_ends (IsEnd ends.GrantsRefused) words gave c.ready (λ some. refl) (λ none. absurd (none c.some))
status_by words gave ends.Done (inl c) =
    ready_ends (IsEnd ends.Done) words gave c.ready (λ some. absurd (c.none some)) (λ none. refl)
status_by words gave ends.Done (inr (inl c)) =
    let g = c.grid in
    let takes : TakesGrid words = record { command = Search; legal_is = c.legal_is; grid = refl } in
    grid_status (IsEnd ends.Done) words gave takes g
    (grid_job_ends (IsEnd ends.Done) words Search g.cell g.tables g.points c.legal_is refl
    (λ name e unknown. absurd (unknown (c.known name e)))
    (λ over. absurd (c.within over)) (λ watches word own asks beyond. absurd (one_command words c.legal_is own))
    (λ own known none. refl)
    (λ watches word own asks below. refl))
status_by words gave ends.Done (inr (inr (inl c))) =
    let a = c.asked in
    asked_job (IsEnd ends.Done) words gave a
    (λ watches word asks beyond. absurd
    (asked_below words a.grid.cell a.grid.points a.watches watches a.word word a.asks c.below asks beyond))
    (λ watches word asks below. refl)
status_by words gave ends.Done (inr (inr (inr c))) =
    ap status_in (sweep_on words gave c.legal_is c.tables c.read) ∙ swept_done c.tables (slots words)
status_by words gave ends.WriteFault c = absurd c
status_by words gave ends.NoMemory c = absurd c

-- an outcome has a status exactly where the cause of that status is there
pub ended_by_its_cause : EndsByItsCause
ended_by_its_cause words gave status l =
    (λ e. subst (λ (s : Status). CauseOf s words gave) e (cause_of_outcome words gave l), λ c. status_by words gave status c)

-- one fetch for each name
as_many : (old new : ShelfView) (names : List (List ℕ)) (gave : List Fetched) → AreGiven old new names gave
    → length gave ≡ length names
as_many old new [] [] g = refl
as_many old new [] (entry ∷ rest) g = absurd g
as_many old new (name ∷ names) [] g = absurd g
as_many old new (name ∷ names) (entry ∷ rest) g = ap suc (as_many old new names rest g.1)

-- a run that ends with a status that the words and the files decide ends with that of its outcome
decided : (wanted answer : Outcome) (result status : Status) → is_cause status ≡ true → (answer ≡ wanted) ⊎ (answer ≡ no_memory)
    → (result ≡ answer.status) ⊎ (result ≡ ends.WriteFault) → result ≡ status → wanted.status ≡ status
decided wanted answer result status d (inl e) (inl s) r = sym (ap status_in e) ∙ sym s ∙ r
decided wanted answer result status d (inr e) (inl s) r =
    let same : ends.NoMemory ≡ status = sym (ap status_in e) ∙ sym s ∙ r in
    let f : is_cause ends.NoMemory ≡ true = ap is_cause same ∙ d in absurd (let g : ⊥ = cc in g)
decided wanted answer result status d a (inr s) r =
    let same : ends.WriteFault ≡ status = sym s ∙ r in
    let f : is_cause ends.WriteFault ≡ true = ap is_cause same ∙ d in absurd (let g : ⊥ = cc in g)

-- each status that the words and the files decide
pub ends_exactly : (status : Status) → is_cause status ≡ true → EndsExactly status (CauseOf status)
ends_exactly status d words old new result oo on eo en ran = record {
  only = λ e.
      (ended_by_its_cause words ran.gave status (as_many old new (named words) ran.gave ran.given)).0
      (decided (outcome words ran.gave) ran.answer result status d ran.is ran.delivered.status e);
  always =
      λ c. ends_with (outcome words ran.gave) ran.answer result status ran.is ran.delivered.status
      (status_by words ran.gave status c);
}
