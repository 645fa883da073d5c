-- The jobs over a grid: the cause of each way in which one of them ends a run.
use Rattle.std.proofs.Common.{◌≡◌, ℕ, ◌<◌, ◌≤◌, true, Option, Some, List, Result, Ok, String, length, sym, ap, subst, ◌∙◌, arith}
use Rattle.std.specs.declared.alloc.Global.{Global}
use Rattle.rrc_settings.specs.declared.settings.RawCell.{RawCell}
use Rattle.table_files.specs.declared.tables.Tables.{Tables}
use Rattle.slot_grid.specs.Grid.{GridValue}
use Rattle.monitor_plan.specs.declared.watch.Watch.{Watch}
use Rattle.monitor_plan.specs.Planned.{planned}
use Rattle.run_steps.specs.declared.statuses.Status.{Status}
use Rattle.run_steps.specs.declared.statuses.Status.TheVariants as ends
use Rattle.run_steps.specs.Outcome.{Printed, Refusal, ended}
use Rattle.pdcch_app.specs.declared.arguments.Flag.TheVariants as flags
use Rattle.pdcch_app.specs.declared.words.Command.{Command}
use Rattle.pdcch_app.specs.declared.words.Command.TheVariants.{Write, Search, Explain, Sweep}
use Rattle.pdcch_app.specs.Arguments.{number_of}
use Rattle.pdcch_app.specs.Causes.{AsksWatch, IsNamed, SomeExceeds, takes_grid}
use Rattle.pdcch_app.specs.Explaining.{explained}
use Rattle.pdcch_app.specs.Reporting.{handset_named, searched}
use Rattle.pdcch_app.specs.Words.{handset, legal, value}
use Rattle.pdcch_app.proofs.Asked.{asks_both}
use Rattle.pdcch_app.proofs.Exceeding.{named_is}
use Rattle.pdcch_app.proofs.JobsDone.{explain_ends, search_ends}

-- what a command prints of a grid, where its last file is one
abbrev pub grid_job : Command → List (String Global) → RawCell → Tables → GridValue → Result Printed Refusal
grid_job Explain words cell tables points = explained cell tables points (value words flags.Handset) (value words flags.Watch)
grid_job _ words cell tables points = searched cell tables points (handset words)

-- the ways in which such a command ends with a grid that was read
pub grid_job_ends : (C : Status → Type 0) (words : List (String Global)) (command : Command) (cell : RawCell)
    (tables : Tables) (points : GridValue)
    → legal words ≡ Some command → takes_grid command ≡ true
    → ((name : List ℕ) → handset words ≡ Some name → (IsNamed cell name → ⊥) → C ends.NoSuch)
    → (SomeExceeds cell (handset words) points.frame points.slot → C ends.SlotRefused)
    → ((watches : List Watch) (word : List ℕ) → legal words ≡ Some Explain → AsksWatch words cell points watches word
    → length watches ≤ number_of word → C ends.NoSuch)
    → (legal words ≡ Some Search → ((name : List ℕ) → handset words ≡ Some name → IsNamed cell name)
    → (SomeExceeds cell (handset words) points.frame points.slot → ⊥) → C ends.Done)
    → ((watches : List Watch) (word : List ℕ) → legal words ≡ Some Explain → AsksWatch words cell points watches word
    → number_of word < length watches → C ends.Done)
    → C (ended (grid_job command words cell tables points)).status
grid_job_ends C words Write cell tables points h g unnamed over unknown searched_all watch_told = absurd (let f : ⊥ = cc in f)
grid_job_ends C words Sweep cell tables points h g unnamed over unknown searched_all watch_told = absurd (let f : ⊥ = cc in f)
grid_job_ends C words Search cell tables points h g unnamed over unknown searched_all watch_told =
    search_ends C cell tables points (handset words) unnamed over (searched_all h)
grid_job_ends C words Explain cell tables points h g unnamed over unknown searched_all watch_told =
    let asks = asks_both words h in
    let name = value words flags.Handset in
    let word = value words flags.Watch in
    let asked : (k : ℕ) (watches : List Watch) → handset_named cell name ≡ Some k
    → planned cell k points.frame points.slot ≡ Ok watches → AsksWatch words cell points watches word
    = λ k watches e p. record {
      name = name;
      named = asks.handset_is;
      handset = k;
      served = e;
      planned_is = p;
      asked =
          asks.watch_is;
    } in
    explain_ends C cell tables points name word (unnamed name asks.handset_is)
    (λ some. over (subst (λ (o : Option (List ℕ)). SomeExceeds cell o points.frame points.slot) (sym asks.handset_is) some))
    (λ k watches e p l. unknown watches word h (asked k watches e p) l)
    (λ k watches e p l. watch_told watches word h (asked k watches e p) l)

-- a handset that is served by its name has it
pub served_by_name : (cell : RawCell) (frame slot : ℕ) (sought : Option (List ℕ)) (name : List ℕ) → sought ≡ Some name
    → SomeExceeds cell sought frame slot → IsNamed cell name
served_by_name cell frame slot sought name e some =
    let here : SomeExceeds cell (Some name) frame slot = subst (λ (o : Option (List ℕ)). SomeExceeds cell o frame slot) e some in
    named_is cell name here.handset here.served

-- so has one whose watch is asked for
pub asked_by_name : (words : List (String Global)) (cell : RawCell) (points : GridValue) (watches : List Watch)
    (word name : List ℕ) → handset words ≡ Some name
    → AsksWatch words cell points watches word → IsNamed cell name
asked_by_name words cell points watches word name e asks =
    let both_are = sym asks.named ∙ e in
    let same : asks.name ≡ name = cc in
    subst (IsNamed cell) same (named_is cell asks.name asks.handset asks.served)

-- the common sets of a handset that has its watches do not exceed a limit
pub asked_within : (words : List (String Global)) (cell : RawCell) (points : GridValue) (watches : List Watch)
    (word : List ℕ) → AsksWatch words cell points watches word
    → SomeExceeds cell (handset words) points.frame points.slot → ⊥
asked_within words cell points watches word asks some =
    let here : SomeExceeds cell (Some asks.name) points.frame points.slot
    = subst (λ (o : Option (List ℕ)). SomeExceeds cell o points.frame points.slot) asks.named some in
    let both_are = sym asks.served ∙ here.served in
    let same : asks.handset ≡ here.handset = cc in
    let never = sym asks.planned_is ∙ ap (λ (k : ℕ). planned cell k points.frame points.slot) same ∙ here.is in
    cc

-- words ask for one watch of one handset, so that its number is not both below the number of the watches and not
pub asked_below : (words : List (String Global)) (cell : RawCell) (points : GridValue) (watches others : List Watch)
    (word other : List ℕ)
    → AsksWatch words cell points watches word → number_of word < length watches → AsksWatch words cell points others other
    → length others ≤ number_of other → ⊥
asked_below words cell points watches others word other a below b beyond =
    let names = sym a.named ∙ b.named in
    let name : a.name ≡ b.name = cc in
    let places = sym a.served ∙ ap (handset_named cell) name ∙ b.served in
    let place : a.handset ≡ b.handset = cc in
    let plans = sym a.planned_is ∙ ap (λ (k : ℕ). planned cell k points.frame points.slot) place ∙ b.planned_is in
    let same : watches ≡ others = cc in
    let asked = sym a.asked ∙ b.asked in
    let one : word ≡ other = cc in
    let here : number_of other
    < length others =
    subst (λ (ws : List Watch). number_of other < length ws) same
    (subst (λ (w : List ℕ). number_of w < length watches) one below) in
    absurd (omega (arith, here, beyond))

-- and are of one command
pub one_command : (words : List (String Global)) → legal words ≡ Some Search → legal words ≡ Some Explain → ⊥
one_command words h k = let never = sym h ∙ k in cc
