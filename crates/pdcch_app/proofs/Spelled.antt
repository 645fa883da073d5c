-- Each handset that is reported has a report of what the grid spells.
use Rattle.std.proofs.Common.{◌≡◌, ℕ, ◌<◌, refl, subst, arith}
use Rattle.std.specs.Prelude.{List, [], ◌∷◌, Result, Ok, Err, All, length}
use Rattle.std.proofs.lemmas.List.Elements.{All-cons, All-head, All-tail}
use Rattle.rrc_settings.specs.declared.settings.RawCell.{RawCell}
use Rattle.rrc_settings.specs.Legal.{IsLegal}
use Rattle.settings_json.specs.First.{raw_in}
use Rattle.settings_json.proofs.NoFault.{legal_read}
use Rattle.slot_grid.specs.Grid.{GridValue}
use Rattle.table_files.specs.declared.tables.Tables.{Tables}
use Rattle.table_files.proofs.ReadTables.{read_is_table}
use Rattle.monitor_budget.specs.declared.allotment.CommonOver.{CommonOver}
use Rattle.monitor_plan.specs.declared.watch.Watch.{Watch}
use Rattle.monitor_plan.specs.Planned.{planned}
use Rattle.monitor_plan.proofs.PlannedWatches.{planned-made}
use Rattle.dci_codec.specs.Hearing.{AreTables}
use Rattle.blind_search.specs.Report.{report_of}
use Rattle.blind_search.proofs.Reports.{one_report}
use Rattle.run_steps.specs.Outcome.{Refusal}
use Rattle.pdcch_app.specs.Hearing.{HasReport, ReportsWhatIsSpelled}
use Rattle.pdcch_app.specs.Reporting.{Listener, listener_before, listeners_of}
use Rattle.pdcch_app.proofs.Heard.{AreHandsets, reported_within}

-- a grid of a legal cell, with two tables
record IsOfCell (cell : RawCell) (tables : Tables) (grid : GridValue) : Type 0 where
  legal : IsLegal cell
  tables_are : AreTables tables
  blocks : grid.blocks ≡ cell.blocks

-- a handset with its watches, of which what is heard is a report
one_has : (cell : RawCell) (tables : Tables) (grid : GridValue) (handset : ℕ) (watches : List Watch)
    → IsOfCell cell tables grid → handset < length cell.handsets
    → planned cell handset grid.frame grid.slot ≡ Ok watches
    → HasReport tables grid (record { handset = handset; watches = watches })
one_has cell tables grid handset watches known l e =
    let made = planned-made cell handset grid.frame grid.slot watches known.legal l e in
    (one_report tables grid watches (report_of tables grid watches) known.tables_are made.plan.sound).1 refl

same_listeners : (xs ys : List Listener) → ◌≡◌ {A = Result (List Listener) Refusal} (Ok xs) (Ok ys) → xs ≡ ys
same_listeners xs ys e = cc

-- a handset before others
one_more : (cell : RawCell) (tables : Tables) (grid : GridValue) (handset : ℕ) (plan : Result (List Watch) CommonOver)
    (rest : Result (List Listener) Refusal)
    (listeners : List Listener) → IsOfCell cell tables grid → handset < length cell.handsets
    → planned cell handset grid.frame grid.slot ≡ plan
    → ((others : List Listener) → rest ≡ Ok others → All (HasReport tables grid) others)
    → listener_before cell handset plan rest ≡ Ok listeners → All (HasReport tables grid) listeners
one_more cell tables grid handset (Ok watches) (Ok others) listeners known l p later e =
    let own : Listener = record { handset = handset; watches = watches } in
    subst (All (HasReport tables grid)) (same_listeners (own ∷ others) listeners e)
    (All-cons (HasReport tables grid) own others (one_has cell tables grid handset watches known l p) (later others refl))
one_more cell tables grid handset (Ok watches) (Err refusal) listeners known l p later e = absurd (let f : ⊥ = cc in f)
one_more cell tables grid handset (Err over) rest listeners known l p later e = absurd (let f : ⊥ = cc in f)

-- and all of them
all_have : (cell : RawCell) (tables : Tables) (grid : GridValue) (handsets : List ℕ) (listeners : List Listener)
    → IsOfCell cell tables grid
    → AreHandsets cell handsets → listeners_of cell grid.frame grid.slot handsets ≡ Ok listeners
    → All (HasReport tables grid) listeners
all_have cell tables grid [] listeners known within e =
    subst (All (HasReport tables grid)) (same_listeners [] listeners e) (λ i d l. absurd (omega (arith, l)))
all_have cell tables grid (handset ∷ others) listeners known within e =
    let In : ℕ → Type 0 = λ h. h < length cell.handsets in
    one_more cell tables grid handset (planned cell handset grid.frame grid.slot)
    (listeners_of cell grid.frame grid.slot others) listeners known
    (All-head In handset others within) refl
    (λ later f. all_have cell tables grid others later known (All-tail In handset others within) f) e

-- each handset that is reported for a legal cell has its report
pub reports_what_is_spelled : ReportsWhatIsSpelled
reports_what_is_spelled settings reliability input_order tables points named handsets listeners none r i b n l =
    let cell = raw_in settings in
    all_have cell tables points handsets listeners
    (record {
      legal = legal_read settings none;
      tables_are = (read_is_table 1024 reliability tables.reliability r, read_is_table 164 input_order tables.input_order i);
      blocks = b;
    })
    (reported_within cell named handsets n) l
