-- What `search` reports: of any grid of the cell just what it spells, and of the grid that `write` prints each accepted grant.
use Rattle.std.specs.Prelude.{◌≡◌, ◌≤◌, ◌⊎◌, ℕ, List, [], ◌∷◌, Option, Some, None, Ok, String, length, slice_get}
use Rattle.std.specs.List.{All, Contains}
use Rattle.std.specs.declared.alloc.Global.{Global}
use Rattle.slot_grid.specs.Grid.{GridValue}
use Rattle.table_files.specs.TableText.{read_table}
use Rattle.table_files.specs.declared.tables.Tables.{Tables}
use Rattle.rrc_settings.specs.declared.settings.RawCell.{RawCell}
use Rattle.rrc_settings.specs.HandsetsOfCell.{handset_at}
use Rattle.settings_json.specs.First.{first_fault_in, raw_in}
use Rattle.monitor_plan.specs.Watch.{watch_at}
use Rattle.dci_codec.specs.Hearing.{heard_of}
use Rattle.dci_codec.specs.Spelled.{spelling_by}
use Rattle.blind_search.specs.Report.{IsReport, report_of}
use Rattle.grant_file.specs.declared.grants.Grant.{Grant}
use Rattle.grant_file.specs.First.{first_fault_in as first_grants_fault, grants_in}
use Rattle.cell_placer.specs.declared.refusal.Placed.{Placed}
use Rattle.cell_placer.specs.Opened.{opened}
use Rattle.cell_placer.specs.Placing.{DeskValue, fates, desk_after}
use Rattle.run_steps.specs.declared.statuses.Status.TheVariants as ends
use Rattle.run_steps.specs.Outcome.{Outcome, given_of, limit}
use Rattle.pdcch_app.specs.declared.words.Command.TheVariants.{Write, Search}
use Rattle.pdcch_app.specs.Outcomes.{outcome}
use Rattle.pdcch_app.specs.Reporting.{Listener, reported, listeners_of, reported_text}
use Rattle.pdcch_app.specs.Words.{legal, handset}

-- what a listener hears is a report of its watches on a grid: the entries rise by watch, each has what the grid spells there, and
-- each watch at which the grid spells something has an entry
abbrev pub HasReport : Tables → GridValue → Listener → Type 0
HasReport tables grid listener = IsReport tables grid listener.watches (report_of tables grid listener.watches)

-- for every legal cell, any two tables and every grid on as many blocks, each handset that is reported has a report
abbrev pub ReportsWhatIsSpelled : Type 0
ReportsWhatIsSpelled =
    (settings reliability input_order : List ℕ) (tables : Tables) (points : GridValue) (named : Option (List ℕ))
    (handsets : List ℕ) (listeners : List Listener)
    → first_fault_in settings ≡ None → read_table 1024 reliability ≡ Ok tables.reliability
    → read_table 164 input_order ≡ Ok tables.input_order
    → points.blocks ≡ (raw_in settings).blocks → reported (raw_in settings) named ≡ Ok handsets
    → listeners_of (raw_in settings) points.frame points.slot handsets ≡ Ok listeners
    → All (HasReport tables points) listeners

-- the handset of a grant is reported: the words name none, so that all are, or this one
abbrev pub IsReported : Option (List ℕ) → Grant → Type 0
IsReported named grant = (named ≡ None) ⊎ (named ≡ Some grant.handset)

-- the report of a listener that has the name in a grant has the grant's entry: at the watch where the grant was placed, of its
-- format, with the values that it gives and 0 in every other field
pub record StandsInReport (cell : RawCell) (tables : Tables) (grid : GridValue) (listeners : List Listener) (grant : Grant)
    (placed : Placed) : Type 0 where
  pub listener : Listener
  pub among : Contains listeners listener
  pub name : (handset_at cell listener.handset).name ≡ grant.handset
  pub entry : let watch = watch_at listener.watches placed.watch in
      Contains (report_of tables grid listener.watches) (heard_of watch placed.watch (spelling_by watch grant.format grant.given))

-- the outcome of `search` is the report of some handsets on the grid that grants leave on a desk, and each accepted grant whose
-- handset is reported stands in it, as it was given
pub record HearsEach (cell : RawCell) (tables : Tables) (grants : List Grant) (desk : DeskValue) (named : Option (List ℕ))
    (handsets : List ℕ) (found : Outcome) : Type 0 where
  pub listeners : List Listener
  pub are : let grid = (desk_after tables desk grants).grid in listeners_of cell grid.frame grid.slot handsets ≡ Ok listeners
  pub is : found ≡ record {
    status = ends.Done;
    out = reported_text cell tables (desk_after tables desk grants).grid
        listeners;
    err = [];
  }
  pub each : (i : ℕ) (grant : Grant) (placed : Placed) → slice_get grants i ≡ Some grant
      → slice_get (fates desk.ledger grants) i ≡ Some (Ok placed)
      → IsReported named grant → StandsInReport cell tables (desk_after tables desk grants).grid listeners grant placed

-- for legal words of `write` and of `search`, every legal cell, any two tables and every legal list of grants, where no handset's
-- common sets exceed a limit in the slot and the handset that the words of `search` name is in the cell: what `write` prints is
-- read by `search` as the grid, and its report has each accepted grant of a reported handset
abbrev pub HearsWhatIsWritten : Type 0
HearsWhatIsWritten =
    (to_write to_search : List (String Global)) (settings reliability input_order grants : List ℕ) (tables : Tables)
    (desk : DeskValue) (handsets : List ℕ)
    → legal to_write ≡ Some Write → legal to_search ≡ Some Search
    → length settings ≤ limit → length reliability ≤ limit → length input_order ≤ limit → length grants ≤ limit
    → first_fault_in settings ≡ None → read_table 1024 reliability ≡ Ok tables.reliability
    → read_table 164 input_order ≡ Ok tables.input_order
    → first_grants_fault (raw_in settings).mu grants ≡ None
    → opened (raw_in settings) (grants_in grants).frame (grants_in grants).slot (length (grants_in grants).grants) ≡ Ok desk
    → reported (raw_in settings) (handset to_search) ≡ Ok handsets
    → let written = outcome to_write (given_of settings ∷ given_of reliability ∷ given_of input_order ∷ given_of grants ∷ []) in
    HearsEach (raw_in settings) tables (grants_in grants).grants desk (handset to_search) handsets
    (outcome to_search (given_of settings ∷ given_of reliability ∷ given_of input_order ∷ given_of written.out ∷ []))
