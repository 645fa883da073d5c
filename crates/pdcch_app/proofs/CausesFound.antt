-- Every outcome has the cause of its status.
use Rattle.std.proofs.Common.{◌≡◌, inl, inr, ℕ, suc, true, Option, Some, None, Result, List, [], ◌∷◌, String, length, Ok}
use Rattle.std.proofs.Common.{Err, refl, sym, subst, ◌∙◌, arith}
use Rattle.std.specs.declared.alloc.Global.{Global}
use Rattle.rrc_settings.specs.declared.settings.RawCell.{RawCell}
use Rattle.table_files.specs.declared.tables.Tables.{Tables}
use Rattle.run_steps.specs.declared.statuses.Status.{Status}
use Rattle.run_steps.specs.Outcome.{Outcome, Cause, Refusal, Fetched, Bytes, TooLong, Fault, and_then, checked, ended}
use Rattle.run_steps.specs.Outcome.{reading, status_of}
use Rattle.pdcch_app.specs.declared.words.Command.{Command}
use Rattle.pdcch_app.specs.declared.words.Command.TheVariants.{Write, Search, Explain, Sweep}
use Rattle.pdcch_app.specs.Causes.{ReadSettings, ReadReliability, ReadTables, ReadFirstTable, CameTo, First, Second, Third}
use Rattle.pdcch_app.specs.Causes.{Fourth, SecondTable, NoReliability, NoInputOrder, NoFirstTable, NoSecondTable}
use Rattle.pdcch_app.specs.Causes.{TakesGrid, HasGrants, HasGrid, WasFaulty, CauseOf, takes_grid, takes_settings}
use Rattle.pdcch_app.specs.Outcomes.{both, outcome, served, sweep_of}
use Rattle.pdcch_app.specs.Words.{legal, file, named, named_by, slots}
use Rattle.pdcch_app.specs.Writing.{written}
use Rattle.pdcch_app.proofs.AskedSlots.{files_are}
use Rattle.pdcch_app.proofs.FilesRead.{IsCheck, settings_check, reliability_check, input_order_check, grants_check, grid_check}
use Rattle.pdcch_app.proofs.InOrder.{after_tables, after_input_order, after_reliability, after_settings, in_order}
use Rattle.pdcch_app.proofs.InOrder.{after_tables-grid, grid_settings}
use Rattle.pdcch_app.proofs.JobsDone.{write_ends}
use Rattle.pdcch_app.proofs.SweptTables.{after_first, at_end, swept_done}
use Rattle.pdcch_app.proofs.GridJobs.{grid_job, grid_job_ends}

-- an outcome has the cause of its status
abbrev HasCause : List (String Global) → List Fetched → Outcome → Type 0
HasCause words gave o = CauseOf o.status words gave

-- legal words of a command, over what each fetch gave
module _ (words : List (String Global)) (gave : List Fetched) (command : Command) (legal_is : legal words ≡ Some command) where
  -- a file that the run comes to, which may be at fault, and may be read as a value
  module _ {A : Type 0} {check : List ℕ → Result A Refusal} {Is : List ℕ → A → Type 0} {AtFault : List ℕ → Type 0}
      {cause : Cause} (told : IsCheck check Is AtFault cause) (Came : List Fetched → Type 0) (name : List ℕ)
      (next : A → List Fetched → Outcome) where
    -- by what the check found of its bytes
    bytes_end : (bytes : List ℕ) (rest : List Fetched) (found : Result A Refusal) → check bytes ≡ found
        → (WasFaulty AtFault Came rest → CauseOf (status_of cause) words gave)
        → ((a : A) → Is bytes a → HasCause words gave (next a rest)) → Came (Bytes bytes ∷ rest)
        → HasCause words gave (and_then (checked found) (λ a. next a rest))
    bytes_end bytes rest (Ok a) e bad good came = good a (told.accepted bytes a e)
    bytes_end bytes rest (Err refusal) e bad good came =
        let faulty = told.refused bytes refusal e in
        subst (λ (c : Cause). CauseOf (status_of c) words gave) (sym faulty.is)
        (bad (record { bytes = bytes; before = came; found = faulty.found }))

    -- by what its fetch gave
    file_ends : (left : List Fetched) (n : ℕ) → length left ≡ suc n → Came left
        → ((entry : Fetched) (rest : List Fetched) → Came (entry ∷ rest) → CameTo command gave entry)
        → ((rest : List Fetched) → WasFaulty AtFault Came rest → CauseOf (status_of cause) words gave)
        → ((bytes : List ℕ) (rest : List Fetched) (a : A) → Came (Bytes bytes ∷ rest) → length rest ≡ n → Is bytes a
        → HasCause words gave (next a rest))
        → HasCause words gave (reading check name next left)
    unfolding reading
    file_ends [] n l came meets bad good = absurd (omega (arith, l))
    file_ends (Fault ∷ rest) n l came meets bad good =
        record { command = command; legal_is = legal_is; file = meets Fault rest came }
    file_ends (TooLong ∷ rest) n l came meets bad good =
        record { command = command; legal_is = legal_is; file = meets TooLong rest came }
    file_ends (Bytes bytes ∷ rest) n l came meets bad good =
        bytes_end bytes rest (check bytes) refl (bad rest) (λ a is. good bytes rest a came (omega (arith, l)) is) came

    -- by that of the last fetch
    last_ends : (left : List Fetched) → length left ≡ 1 → Came left
        → ((entry : Fetched) → Came (entry ∷ []) → CameTo command gave entry)
        → (WasFaulty AtFault Came [] → CauseOf (status_of cause) words gave)
        → ((bytes : List ℕ) (a : A) → Came (Bytes bytes ∷ []) → Is bytes a → HasCause words gave (next a []))
        → HasCause words gave (reading check name next left)
    unfolding reading
    last_ends [] l came meets bad good = absurd (omega (arith, l))
    last_ends (entry ∷ other ∷ rest) l came meets bad good = absurd (omega (arith, l))
    last_ends (Fault ∷ []) l came meets bad good =
        record { command = command; legal_is = legal_is; file = meets Fault came }
    last_ends (TooLong ∷ []) l came meets bad good =
        record { command = command; legal_is = legal_is; file = meets TooLong came }
    last_ends (Bytes bytes ∷ []) l came meets bad good =
        bytes_end bytes [] (check bytes) refl bad (λ a is. good bytes a came is) came

-- the grants, and what is written of them
grants_end : (words : List (String Global)) (gave : List Fetched) (cell : RawCell) (tables : Tables) (left : List Fetched)
    → legal words ≡ Some Write → ReadTables gave cell tables left → length left ≡ 1
    → HasCause words gave (after_tables Write words cell tables left)
grants_end words gave cell tables left h read l =
    last_ends words gave Write h (grants_check cell) (ReadTables gave cell tables) (file Write words 3)
    (λ list _. ended (written cell tables list)) left l read
    (λ entry came. Fourth cell tables refl came)
    (λ bad. record { legal_is = h; cell = cell; tables = tables; file = bad })
    (λ bytes list came is.
    let grants : HasGrants gave =
    record { cell = cell; tables = tables; list = list; read = record { bytes = bytes; before = came; is = is } } in
    write_ends (λ (status : Status). CauseOf status words gave) cell tables list
    (λ over. inl (record { legal_is = h; grants = grants; over = over }))
    (λ desk d some. record { ready = record { legal_is = h; grants = grants; desk = desk; desk_is = d }; some = some })
    (λ desk d none. inl (record { ready = record { legal_is = h; grants = grants; desk = desk; desk_is = d }; none = none })))

-- the grid, and what is told of it
grid_ends : (words : List (String Global)) (gave : List Fetched) (command : Command) (cell : RawCell) (tables : Tables)
    (left : List Fetched)
    → legal words ≡ Some command → takes_grid command ≡ true → ReadTables gave cell tables left → length left ≡ 1
    → HasCause words gave (after_tables command words cell tables left)
grid_ends words gave command cell tables left h g read l =
    let takes : TakesGrid words = record { command = command; legal_is = h; grid = g } in
    subst (HasCause words gave) (sym (after_tables-grid command words cell tables left g))
    (last_ends words gave command h (grid_check cell) (ReadTables gave cell tables) (file command words 3)
    (λ points _. ended (grid_job command words cell tables points)) left l read
    (λ entry came. Fourth cell tables (grid_settings command g) came)
    (λ bad. record { takes = takes; cell = cell; tables = tables; file = bad })
    (λ bytes points came is.
    let grid : HasGrid gave =
    record { cell = cell; tables = tables; points = points; read = record { bytes = bytes; before = came; is = is } } in
    grid_job_ends (λ (status : Status). CauseOf status words gave) words command cell tables points h g
    (λ name f unknown. inl (record { takes = takes; grid = grid; name = name; named = f; unknown = unknown }))
    (λ over. inr (record { takes = takes; grid = grid; over = over }))
    (λ watches word own asks beyond.
    inr (record {
      asked = record { legal_is = own; grid = grid; watches = watches; word = word; asks = asks };
      beyond = beyond;
    }))
    (λ own known none. inr (inl (record { legal_is = own; grid = grid; known = known; within = none })))
    (λ watches word own asks below.
    inr (inr (inl (record {
      asked = record { legal_is = own; grid = grid; watches = watches; word = word; asks = asks };
      below = below;
    }))))))

-- the last file, whatever it is
fourth_ends : (words : List (String Global)) (gave : List Fetched) (command : Command) (cell : RawCell) (tables : Tables)
    (left : List Fetched) → legal words ≡ Some command → takes_settings command ≡ true → ReadTables gave cell tables left
    → length left ≡ 1
    → HasCause words gave (after_tables command words cell tables left)
fourth_ends words gave Write cell tables left h s read l = grants_end words gave cell tables left h read l
fourth_ends words gave Search cell tables left h s read l = grid_ends words gave Search cell tables left h refl read l
fourth_ends words gave Explain cell tables left h s read l = grid_ends words gave Explain cell tables left h refl read l
fourth_ends words gave Sweep cell tables left h s read l = absurd (let f : ⊥ = cc in f)

-- the files of a command that takes settings
module _ (words : List (String Global)) (gave : List Fetched) (command : Command) (legal_is : legal words ≡ Some command)
    (takes : takes_settings command ≡ true) where
  -- the third, and then the last
  third_ends : (cell : RawCell) (numbers : List ℕ) (left : List Fetched) → ReadReliability gave cell numbers left
      → length left ≡ 2 → HasCause words gave (after_reliability command words cell numbers left)
  third_ends cell numbers left read l =
      file_ends words gave command legal_is input_order_check (ReadReliability gave cell numbers) (file command words 2)
      (after_input_order command words cell numbers) left 1 l read
      (λ entry rest came. Third cell numbers rest takes came)
      (λ rest bad. record { command = command; legal_is = legal_is; table = NoInputOrder cell numbers rest takes bad })
      (λ bytes rest order came n is.
      fourth_ends words gave command cell (both numbers order) rest legal_is takes
      (record { bytes = bytes; before = came; is = is }) n)

  -- the second, and then the third
  second_ends : (cell : RawCell) (left : List Fetched) → ReadSettings gave cell left → length left ≡ 3
      → HasCause words gave (after_settings command words cell left)
  second_ends cell left read l =
      file_ends words gave command legal_is reliability_check (ReadSettings gave cell) (file command words 1)
      (after_reliability command words cell) left 2 l read
      (λ entry rest came. Second cell rest takes came)
      (λ rest bad. record { command = command; legal_is = legal_is; table = NoReliability cell rest takes bad })
      (λ bytes rest numbers came n is. third_ends cell numbers rest (record { bytes = bytes; before = came; is = is }) n)

  -- the first, and then the second
  first_ends : length gave ≡ 4 → HasCause words gave (in_order command words gave)
  first_ends l =
      file_ends words gave command legal_is settings_check (◌≡◌ gave) (file command words 0) (after_settings command words)
      gave 3 l refl
      (λ entry rest came. First rest came)
      (λ rest bad. record { command = command; legal_is = legal_is; settings = takes; rest = rest; file = bad })
      (λ bytes rest cell came n is. second_ends cell rest (record { bytes = bytes; before = came; is = is }) n)

-- the two tables of `sweep`: the input order
second_table_ends : (words : List (String Global)) (gave : List Fetched) (numbers : List ℕ) (left : List Fetched)
    → legal words ≡ Some Sweep → ReadFirstTable gave numbers left → length left ≡ 1
    → HasCause words gave (after_first words numbers left)
second_table_ends words gave numbers left h read l =
    last_ends words gave Sweep h input_order_check (ReadFirstTable gave numbers) (file Sweep words 1) (at_end words numbers)
    left l read
    (λ entry came. SecondTable numbers refl came)
    (λ bad. record { command = Sweep; legal_is = h; table = NoSecondTable numbers refl bad })
    (λ bytes order came is.
    subst (λ (status : Status). CauseOf status words gave) (sym (swept_done (both numbers order) (slots words)))
    (inr (inr (inr (record {
      legal_is = h;
      tables = both numbers order;
      read = record { bytes = bytes; before = came; is = is };
    })))))

-- the reliability table
sweep_ends : (words : List (String Global)) (gave : List Fetched) → legal words ≡ Some Sweep → length gave ≡ 2
    → HasCause words gave (sweep_of (slots words) (file Sweep words 0) (file Sweep words 1) gave)
sweep_ends words gave h l =
    file_ends words gave Sweep h reliability_check (◌≡◌ gave) (file Sweep words 0) (after_first words) gave 1 l refl
    (λ entry rest came. First rest came)
    (λ rest bad. record { command = Sweep; legal_is = h; table = NoFirstTable rest refl bad })
    (λ bytes rest numbers came n is.
    second_table_ends words gave numbers rest h (record { bytes = bytes; before = came; is = is }) n)

-- every outcome has its cause, by the command of the words
cause_by : (words : List (String Global)) (gave : List Fetched) (command : Option Command) → legal words ≡ command
    → length gave ≡ length (named_by command words)
    → HasCause words gave (served command words gave)
cause_by words gave None h l = h
cause_by words gave (Some Write) h l = first_ends words gave Write h refl (l ∙ files_are words Write h)
cause_by words gave (Some Search) h l = first_ends words gave Search h refl (l ∙ files_are words Search h)
cause_by words gave (Some Explain) h l = first_ends words gave Explain h refl (l ∙ files_are words Explain h)
cause_by words gave (Some Sweep) h l = sweep_ends words gave h (l ∙ files_are words Sweep h)

-- every outcome has its cause
pub cause_of_outcome : (words : List (String Global)) (gave : List Fetched) → length gave ≡ length (named words)
    → CauseOf (outcome words gave).status words gave
cause_of_outcome words gave l = cause_by words gave (legal words) refl l
