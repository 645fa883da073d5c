-- The two tables of `sweep`, and how a run ends by them.
use Rattle.std.proofs.Common.{◌≡◌, ℕ, false, Some, List, [], ◌∷◌, String, refl, ap, ◌∙◌}
use Rattle.std.specs.declared.alloc.Global.{Global}
use Rattle.table_files.specs.declared.tables.Tables.{Tables}
use Rattle.run_steps.specs.declared.statuses.Status.{Status}
use Rattle.run_steps.specs.declared.statuses.Status.TheVariants as ends
use Rattle.run_steps.specs.Outcome.{Outcome, Fetched, Bytes, ended, given_of, reading}
use Rattle.pdcch_app.specs.declared.words.Command.{Command}
use Rattle.pdcch_app.specs.declared.words.Command.TheVariants.{Write, Search, Explain, Sweep}
use Rattle.pdcch_app.specs.Causes.{ReadFirstTable, ReadBothTables, IsTable, IsNoTable, WasFaulty, takes_settings}
use Rattle.pdcch_app.specs.Checks.{reliability_of, input_order_of}
use Rattle.pdcch_app.specs.Outcomes.{both, outcome, served}
use Rattle.pdcch_app.specs.Promises.{SweepsTheLoad}
use Rattle.pdcch_app.specs.Sweeping.{swept}
use Rattle.pdcch_app.specs.Words.{file, legal, slots}
use Rattle.pdcch_app.proofs.AskedSlots.{asks_slots}
use Rattle.pdcch_app.proofs.FilesRead.{file_read, file_refused, file_missed, missed_status, reliability_check}
use Rattle.pdcch_app.proofs.FilesRead.{input_order_check}
use Rattle.pdcch_app.proofs.InOrder.{read_within}

-- the status of an outcome
abbrev pub status_in : Outcome → Status
status_in o = o.status

-- the command that takes no settings is `sweep`
pub sweeps : (words : List (String Global)) (command : Command) → legal words ≡ Some command
    → takes_settings command ≡ false → legal words ≡ Some Sweep
sweeps words Write h t = absurd (let f : ⊥ = cc in f)
sweeps words Search h t = absurd (let f : ⊥ = cc in f)
sweeps words Explain h t = absurd (let f : ⊥ = cc in f)
sweeps words Sweep h t = h

-- what follows the tables
abbrev pub at_end : List (String Global) → List ℕ → List ℕ → List Fetched → Outcome
at_end words numbers order left = ended (swept (both numbers order) (slots words))

-- what follows the first of them
abbrev pub after_first : List (String Global) → List ℕ → List Fetched → Outcome
after_first words numbers = reading input_order_of (file Sweep words 1) (at_end words numbers)

-- what is printed is that of a job that was done
pub swept_done : (tables : Tables) (number : ℕ) → (ended (swept tables number)).status ≡ ends.Done
unfolding swept
swept_done tables number = refl

-- legal words of `sweep`, over what each fetch gave
module _ (words : List (String Global)) (gave : List Fetched) (legal_is : legal words ≡ Some Sweep) where
  outcome_is : outcome words gave ≡ reading reliability_of (file Sweep words 0) (after_first words) gave
  outcome_is = ap (λ c. served c words gave) legal_is

  -- the first table is passed on
  first_on : (numbers : List ℕ) (rest : List Fetched) → ReadFirstTable gave numbers rest
      → outcome words gave ≡ after_first words numbers rest
  first_on numbers rest read =
      outcome_is ∙ ap (reading reliability_of (file Sweep words 0) (after_first words)) read.before
      ∙ file_read reliability_check (file Sweep words 0) (after_first words) read.bytes rest numbers read.is

  -- and so is the second
  pub sweep_on : (tables : Tables) → ReadBothTables gave tables → outcome words gave ≡ ended (swept tables (slots words))
  sweep_on tables read =
      first_on tables.reliability (Bytes read.bytes ∷ []) read.before
      ∙ file_read input_order_check (file Sweep words 1) (at_end words tables.reliability) read.bytes []
      tables.input_order read.is

  -- a first table that is none ends the run
  pub no_first_table : (rest : List Fetched) → WasFaulty (IsNoTable 1024) (◌≡◌ gave) rest
      → (outcome words gave).status ≡ ends.TableRefused
  no_first_table rest f =
      ap status_in (outcome_is ∙ ap (reading reliability_of (file Sweep words 0) (after_first words)) f.before)
      ∙ file_refused reliability_check (file Sweep words 0) (after_first words) f.bytes rest f.found

  -- and so does a second
  pub no_second_table : (numbers : List ℕ) → WasFaulty (IsNoTable 164) (ReadFirstTable gave numbers) []
      → (outcome words gave).status ≡ ends.TableRefused
  no_second_table numbers f =
      ap status_in (first_on numbers (Bytes f.bytes ∷ []) f.before)
      ∙ file_refused input_order_check (file Sweep words 1) (at_end words numbers) f.bytes [] f.found

  -- and a fetch of the first that gave no bytes
  pub missed_first : (entry : Fetched) (rest : List Fetched) (status : Status) → missed_status entry ≡ Some status
      → gave ≡ entry ∷ rest → (outcome words gave).status ≡ status
  missed_first entry rest status m e =
      ap status_in (outcome_is ∙ ap (reading reliability_of (file Sweep words 0) (after_first words)) e)
      ∙ file_missed reliability_of (file Sweep words 0) (after_first words) entry rest status m

  -- or of the second
  pub missed_second : (numbers : List ℕ) (entry : Fetched) (status : Status) → missed_status entry ≡ Some status
      → ReadFirstTable gave numbers (entry ∷ []) → (outcome words gave).status ≡ status
  missed_second numbers entry status m read =
      ap status_in (first_on numbers (entry ∷ []) read)
      ∙ file_missed input_order_of (file Sweep words 1) (at_end words numbers) entry [] status m

-- `sweep` prints the summary of the first slots of the load
pub sweeps_the_load : SweepsTheLoad
unfolding swept
sweeps_the_load words reliability input_order tables w hr hi r i =
    let gave : List Fetched = given_of reliability ∷ given_of input_order ∷ [] in
    let asks = asks_slots words w in
    record {
      is =
          sweep_on words gave w tables
          (read_within (IsTable 164) (ReadFirstTable gave tables.reliability) tables.input_order [] input_order hi
          (read_within (IsTable 1024) (◌≡◌ gave) tables.reliability (given_of input_order ∷ []) reliability hr refl r) i);
      least = asks.least;
      most = asks.most;
    }
