-- The files of a run, one after the other: what the check of each tells of its bytes, and where the run goes from there.
use Rattle.std.proofs.Common.{◌≡◌, ℕ, Bool, true, false, cond, ◌==◌, List, ◌∷◌, Option, Some, None, Result, Ok}
use Rattle.std.proofs.Common.{Err, refl, sym, ap, subst, ◌∙◌, arith}
use Rattle.std.proofs.lemmas.Bool.Decides.{nat_tests}
use Rattle.rrc_settings.specs.declared.settings.RawCell.{RawCell}
use Rattle.settings_json.specs.First.{first_fault_in, raw_in}
use Rattle.table_files.specs.TableText.{read_table}
use Rattle.table_files.specs.declared.fault.TableFault.{TableFault}
use Rattle.grant_file.specs.First.{first_fault_in as first_grants_fault, grants_in}
use Rattle.grid_file.specs.FoundGrid.{reading_of}
use Rattle.slot_grid.specs.Grid.{GridValue}
use Rattle.run_steps.specs.declared.statuses.Status.{Status}
use Rattle.run_steps.specs.declared.statuses.Status.TheVariants as ends
use Rattle.run_steps.specs.Outcome.{Outcome, Refusal, Cause, BadSettings, BadTable, BadGrants, BadGrid, Fetched, Bytes}
use Rattle.run_steps.specs.Outcome.{TooLong, Fault, reading, status_of}
use Rattle.pdcch_app.specs.Causes.{HasFault, IsSound, AreSettings, AreNoSettings, IsTable, IsNoTable, AreGrants, AreNoGrants}
use Rattle.pdcch_app.specs.Causes.{IsGridOf, IsNoGridOf, NoText, OtherMu, OtherBlocks}
use Rattle.pdcch_app.specs.Checks.{settings_of, table_found, reliability_of, input_order_of}
use Rattle.pdcch_app.specs.Checks.{grants_of, grid_read, grid_of}
use Rattle.pdcch_app.specs.Lines.{settings_line, reliability_line, input_order_line, grants_line}

-- a finding, and a refusal for this cause
pub record IsRefusal (Found : Type 0) (cause : Cause) (refusal : Refusal) : Type 0 where
  pub found : Found
  pub is : refusal.cause ≡ cause

-- what a check tells of the bytes of a file: it accepts those that are read as a value, and refuses for one cause those at fault
pub record IsCheck {A : Type 0} (check : List ℕ → Result A Refusal) (Is : List ℕ → A → Type 0)
    (AtFault : List ℕ → Type 0) (cause : Cause) : Type 0 where
  pub accepted : (bytes : List ℕ) (a : A) → check bytes ≡ Ok a → Is bytes a
  pub refused : (bytes : List ℕ) (refusal : Refusal) → check bytes ≡ Err refusal → IsRefusal (AtFault bytes) cause refusal
  pub accepts : (bytes : List ℕ) (a : A) → Is bytes a → check bytes ≡ Ok a
  pub refuses : (bytes : List ℕ) → AtFault bytes
      → (line : List ℕ) × (check bytes ≡ Err (record { cause = cause; line = line }))

-- a file that is read is passed on to the next step
pub file_read : {A : Type 0} {check : List ℕ → Result A Refusal} {Is : List ℕ → A → Type 0} {AtFault : List ℕ → Type 0}
    {cause : Cause}
    → IsCheck check Is AtFault cause → (name : List ℕ) (next : A → List Fetched → Outcome) (bytes : List ℕ)
    (rest : List Fetched) (a : A) → Is bytes a
    → reading check name next (Bytes bytes ∷ rest) ≡ next a rest
unfolding reading
file_read told name next bytes rest a is = rw (told.accepts bytes a is) refl

-- a file at fault ends the run
pub file_refused : {A : Type 0} {check : List ℕ → Result A Refusal} {Is : List ℕ → A → Type 0} {AtFault : List ℕ → Type 0}
    {cause : Cause}
    → IsCheck check Is AtFault cause → (name : List ℕ) (next : A → List Fetched → Outcome) (bytes : List ℕ)
    (rest : List Fetched) → AtFault bytes
    → (reading check name next (Bytes bytes ∷ rest)).status ≡ status_of cause
unfolding reading
file_refused told name next bytes rest at = let (line, is) = told.refuses bytes at in rw is refl

-- the status of a fetch that gave no bytes
abbrev pub missed_status : Fetched → Option Status
missed_status (Bytes bytes) = None
missed_status TooLong = Some ends.FileTooLong
missed_status Fault = Some ends.ReadFault

-- a file whose fetch gave no bytes ends the run
pub file_missed : {A : Type 0} (check : List ℕ → Result A Refusal) (name : List ℕ) (next : A → List Fetched → Outcome)
    (entry : Fetched) (rest : List Fetched) (status : Status)
    → missed_status entry ≡ Some status → (reading check name next (entry ∷ rest)).status ≡ status
unfolding reading
file_missed check name next (Bytes bytes) rest status m = absurd (let f : ⊥ = cc in f)
file_missed check name next TooLong rest status m = cc
file_missed check name next Fault rest status m = cc

-- a check by the first fault of the bytes
module _ {A F : Type 0} (cause : Cause) (line : F → List ℕ) where
  -- what was read where no fault was found, or else the refusal of the fault
  abbrev judged : Option F → A → Result A Refusal
  judged (Some fault) read = Err (record { cause = cause; line = line fault })
  judged None read = Ok read

  judged_sound : (found : Option F) (read value : A) → judged found read ≡ Ok value → IsSound found read value
  judged_sound (Some fault) read value e = absurd (let f : ⊥ = cc in f)
  judged_sound None read value e = record { sound = refl; is = cc }

  judged_fault : (found : Option F) (read : A) (refusal : Refusal) → judged found read ≡ Err refusal
      → IsRefusal (HasFault found) cause refusal
  judged_fault (Some fault) read refusal e =
      let same : record { cause = cause; line = line fault } ≡ refusal = cc in
      record { found = record { fault = fault; is = refl }; is = ap (λ (r : Refusal). r.cause) (sym same) }
  judged_fault None read refusal e = absurd (let f : ⊥ = cc in f)

  judged_check : (first : List ℕ → Option F) (read : List ℕ → A)
      → IsCheck (λ bytes. judged (first bytes) (read bytes)) (λ bytes. IsSound (first bytes) (read bytes))
      (λ bytes. HasFault (first bytes)) cause
  judged_check first read = record {
    accepted = λ bytes value e. judged_sound (first bytes) (read bytes) value e;
    refused = λ bytes refusal e. judged_fault (first bytes) (read bytes) refusal e;
    accepts = λ bytes value s. ap (λ found. judged found (read bytes)) s.sound ∙ ap (λ (a : A). Ok a) (sym s.is);
    refuses = λ bytes some. (line some.fault, ap (λ found. judged found (read bytes)) some.is);
  }

-- the first file of most commands: legal settings
pub settings_check : IsCheck settings_of AreSettings AreNoSettings BadSettings
unfolding settings_of
settings_check = judged_check BadSettings settings_line first_fault_in raw_in

-- the last file of `write`: the grants of a slot of the cell
pub grants_check : (cell : RawCell) → IsCheck (grants_of cell) (AreGrants cell) (AreNoGrants cell) BadGrants
unfolding grants_of
grants_check cell = judged_check BadGrants grants_line (first_grants_fault cell.mu) grants_in

table_good : (line : TableFault → List ℕ) (found : Result (List ℕ) TableFault) (numbers : List ℕ)
    → table_found line found ≡ Ok numbers → found ≡ Ok numbers
table_good line (Ok other) numbers e = let same : other ≡ numbers = cc in ap (λ (n : List ℕ). Ok n) same
table_good line (Err fault) numbers e = absurd (let g : ⊥ = cc in g)

table_bad : (line : TableFault → List ℕ) (count : ℕ) (bytes : List ℕ) (found : Result (List ℕ) TableFault)
    (refusal : Refusal) → read_table count bytes ≡ found → table_found line found ≡ Err refusal
    → IsRefusal (IsNoTable count bytes) BadTable refusal
table_bad line count bytes (Ok numbers) refusal f e = absurd (let g : ⊥ = cc in g)
table_bad line count bytes (Err fault) refusal f e =
    let same : record { cause = BadTable; line = line fault } ≡ refusal = cc in
    record { found = record { fault = fault; is = f }; is = ap (λ (r : Refusal). r.cause) (sym same) }

-- a table of so many numbers, with the line of its faults
table_check : (line : TableFault → List ℕ) (count : ℕ)
    → IsCheck (λ bytes. table_found line (read_table count bytes)) (IsTable count) (IsNoTable count) BadTable
table_check line count = record {
  accepted = λ bytes numbers e. table_good line (read_table count bytes) numbers e;
  refused = λ bytes refusal e. table_bad line count bytes (read_table count bytes) refusal refl e;
  accepts = λ bytes numbers is. ap (table_found line) is;
  refuses = λ bytes none. (line none.fault, ap (table_found line) none.is);
}

-- the reliability table
pub reliability_check : IsCheck reliability_of (IsTable 1024) (IsNoTable 1024) BadTable
unfolding reliability_of
reliability_check = table_check reliability_line 1024

-- the input order
pub input_order_check : IsCheck input_order_of (IsTable 164) (IsNoTable 164) BadTable
unfolding input_order_of
input_order_check = table_check input_order_line 164

-- what is found of the bytes of a grid
abbrev GridFound : RawCell → List ℕ → Result GridValue Refusal → Type 0
GridFound cell bytes (Ok points) = IsGridOf cell bytes points
GridFound cell bytes (Err refusal) = IsRefusal (IsNoGridOf cell bytes) BadGrid refusal

equal_from : (a b : ℕ) → (a == b) ≡ true → a ≡ b
equal_from a b e = grind (arith, nat_tests)

unequal_from : (a b : ℕ) → (a == b) ≡ false → a ≡ b → ⊥
unequal_from a b e h = grind (arith, nat_tests)

fitting_found : (cell : RawCell) (bytes : List ℕ) (grid : GridValue) (mu blocks : Bool) (mu_line blocks_line : List ℕ)
    → reading_of bytes ≡ Ok grid → (grid.mu == cell.mu) ≡ mu → (grid.blocks == cell.blocks) ≡ blocks
    → GridFound cell bytes (cond mu (cond blocks (Ok grid) (Err (record { cause = BadGrid; line = blocks_line })))
    (Err (record { cause = BadGrid; line = mu_line })))
fitting_found cell bytes grid true true mu_line blocks_line e m b =
    record { is = e; mu = equal_from grid.mu cell.mu m; blocks = equal_from grid.blocks cell.blocks b }
fitting_found cell bytes grid true false mu_line blocks_line e m b =
    record { found = OtherBlocks grid e (unequal_from grid.blocks cell.blocks b); is = refl }
fitting_found cell bytes grid false blocks mu_line blocks_line e m b =
    record { found = OtherMu grid e (unequal_from grid.mu cell.mu m); is = refl }

read_found : (cell : RawCell) (bytes : List ℕ) (read : Result GridValue ℕ) → reading_of bytes ≡ read
    → GridFound cell bytes (grid_read cell read)
read_found cell bytes (Ok grid) e =
    fitting_found cell bytes grid (grid.mu == cell.mu) (grid.blocks == cell.blocks) _ _ e refl refl
read_found cell bytes (Err at) e = record { found = NoText at e; is = refl }

grid_found : (cell : RawCell) (bytes : List ℕ) → GridFound cell bytes (grid_of cell bytes)
unfolding grid_of
grid_found cell bytes = read_found cell bytes (reading_of bytes) refl

-- bytes that are no grid of the cell are not read as one
no_grid_of : (cell : RawCell) (bytes : List ℕ) (points : GridValue) → IsNoGridOf cell bytes → IsGridOf cell bytes points → ⊥
no_grid_of cell bytes points (NoText at e) grid = let f = sym e ∙ grid.is in cc
no_grid_of cell bytes points (OtherMu other e m) grid =
    let both_are = sym e ∙ grid.is in
    let same : other ≡ points = cc in
    m (ap (λ (p : GridValue). p.mu) same ∙ grid.mu)
no_grid_of cell bytes points (OtherBlocks other e b) grid =
    let both_are = sym e ∙ grid.is in
    let same : other ≡ points = cc in
    b (ap (λ (p : GridValue). p.blocks) same ∙ grid.blocks)

grid_refusal : (cell : RawCell) (bytes : List ℕ) (found : Result GridValue Refusal) → IsNoGridOf cell bytes
    → GridFound cell bytes found
    → (line : List ℕ) × (found ≡ Err (record { cause = BadGrid; line = line }))
grid_refusal cell bytes (Ok points) none grid = absurd (no_grid_of cell bytes points none grid)
grid_refusal cell bytes (Err refusal) none grid =
    (refusal.line, ap (λ (c : Cause). Err (record { cause = c; line = refusal.line })) grid.is)

-- a grid of the cell is found as it is read
grid_as_read : (cell : RawCell) (bytes : List ℕ) (points : GridValue) (found : Result GridValue Refusal)
    → IsGridOf cell bytes points → GridFound cell bytes found → found ≡ Ok points
grid_as_read cell bytes points (Ok other) grid is =
    let both_are = sym is.is ∙ grid.is in
    let same : other ≡ points = cc in
    ap (λ (p : GridValue). Ok p) same
grid_as_read cell bytes points (Err refusal) grid is = absurd (no_grid_of cell bytes points is.found grid)

-- the last file of the other commands that take settings: a grid of the cell
pub grid_check : (cell : RawCell) → IsCheck (grid_of cell) (IsGridOf cell) (IsNoGridOf cell) BadGrid
grid_check cell = record {
  accepted = λ bytes points e. subst (GridFound cell bytes) e (grid_found cell bytes);
  refused = λ bytes refusal e. subst (GridFound cell bytes) e (grid_found cell bytes);
  accepts = λ bytes points is. grid_as_read cell bytes points (grid_of cell bytes) is (grid_found cell bytes);
  refuses = λ bytes none. grid_refusal cell bytes (grid_of cell bytes) none (grid_found cell bytes);
}
