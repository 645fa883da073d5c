-- What a run of the program promises, as sentences over what it leaves and over its outcome.
use Rattle.std.specs.Prelude.{◌≡◌, ◌<◌, ◌≤◌, ℕ, cond, List, [], ◌∷◌, Some, None, Ok, String, length, map}
use Rattle.std.specs.List.{list_all, range_with_len}
use Rattle.std.specs.declared.alloc.Global.{Global}
use Rattle.settings_json.specs.First.{first_fault_in, raw_in}
use Rattle.table_files.specs.TableText.{read_table}
use Rattle.table_files.specs.declared.tables.Tables.{Tables}
use Rattle.grant_file.specs.First.{first_fault_in as first_grants_fault, grants_in}
use Rattle.grid_file.specs.FoundGrid.{reading_of}
use Rattle.grid_file.specs.GridText.{grid_text}
use Rattle.slot_grid.specs.Grid.{GridValue}
use Rattle.monitor_plan.specs.declared.watch.Watch.{Watch}
use Rattle.monitor_plan.specs.Planned.{planned}
use Rattle.monitor_plan.specs.Watch.{watch_at}
use Rattle.dci_codec.specs.Answer.{answer_at}
use Rattle.dci_codec.specs.Silences.{IsAnswer}
use Rattle.report_text.specs.Explain.{explain_text}
use Rattle.par_sweep.specs.Summary.{summary_text}
use Rattle.par_sweep.specs.Sweep.{slot_totals}
use Rattle.cell_placer.specs.Opened.{opened}
use Rattle.cell_placer.specs.Placing.{DeskValue, fates, desk_after}
use Rattle.run_steps.specs.declared.statuses.Status.TheVariants as ends
use Rattle.run_steps.specs.Outcome.{Outcome, given_of, limit}
use Rattle.pdcch_app.specs.declared.words.Command.TheVariants.{Write, Search, Explain, Sweep}
use Rattle.pdcch_app.specs.Arguments.{number_of}
use Rattle.pdcch_app.specs.Outcomes.{outcome}
use Rattle.pdcch_app.specs.Reporting.{Listener, handset_named, reported, listeners_of, reported_text}
use Rattle.pdcch_app.specs.Words.{legal, handset, slots, watch}
use Rattle.pdcch_app.specs.Writing.{is_placed, refusal_lines}

-- for legal words of `write`, every legal cell, any two tables and every legal list of grants, where no handset's common sets
-- exceed a limit in the slot: the output is the text of the grid that the grants leave on the blank grid of the slot, the error
-- output has a line for each refused grant in order, and the status says whether there was one
abbrev pub WritesEveryList : Type 0
WritesEveryList =
    (words : List (String Global)) (settings reliability input_order grants : List ℕ) (tables : Tables) (desk : DeskValue)
    → legal words ≡ Some Write
    → length settings ≤ limit → length reliability ≤ limit → length input_order ≤ limit → length grants ≤ limit
    → first_fault_in settings ≡ None → read_table 1024 reliability ≡ Ok tables.reliability
    → read_table 164 input_order ≡ Ok tables.input_order
    → first_grants_fault (raw_in settings).mu grants ≡ None
    → opened (raw_in settings) (grants_in grants).frame (grants_in grants).slot (length (grants_in grants).grants) ≡ Ok desk
    → outcome words (given_of settings ∷ given_of reliability ∷ given_of input_order ∷ given_of grants ∷ [])
    ≡ record {
      status = cond (list_all is_placed (fates desk.ledger (grants_in grants).grants)) ends.Done ends.GrantsRefused;
      out = grid_text (desk_after tables desk (grants_in grants).grants).grid;
      err = refusal_lines 0 (grants_in grants).grants (fates desk.ledger (grants_in grants).grants);
    }

-- for legal words of `search`, every legal cell, any two tables and every grid of the cell, where the handset that the words
-- name is in the cell and no reported handset's common sets exceed a limit in the slot: the output is the report of what each
-- reported handset hears, the error output is empty, and the status is that of a job that was done
abbrev pub SearchesEveryGrid : Type 0
SearchesEveryGrid =
    (words : List (String Global)) (settings reliability input_order grid : List ℕ) (tables : Tables) (points : GridValue)
    (handsets : List ℕ) (listeners : List Listener)
    → legal words ≡ Some Search
    → length settings ≤ limit → length reliability ≤ limit → length input_order ≤ limit → length grid ≤ limit
    → first_fault_in settings ≡ None → read_table 1024 reliability ≡ Ok tables.reliability
    → read_table 164 input_order ≡ Ok tables.input_order
    → reading_of grid ≡ Ok points → points.mu ≡ (raw_in settings).mu → points.blocks ≡ (raw_in settings).blocks
    → reported (raw_in settings) (handset words) ≡ Ok handsets
    → listeners_of (raw_in settings) points.frame points.slot handsets ≡ Ok listeners
    → outcome words (given_of settings ∷ given_of reliability ∷ given_of input_order ∷ given_of grid ∷ [])
    ≡ record { status = ends.Done; out = reported_text (raw_in settings) tables points listeners; err = [] }

-- the outcome of `explain` is the lines of a watch with its number and the answer there, and this is the answer that the stages
-- of hearing tell
pub record ExplainsWatch (tables : Tables) (points : GridValue) (looked_at : Watch) (number : ℕ) (found : Outcome) : Type 0 where
  pub is : found ≡ record {
    status = ends.Done;
    out = explain_text looked_at number
        (answer_at tables points looked_at number);
    err = [];
  }
  pub told : IsAnswer tables points looked_at number (answer_at tables points looked_at number)

-- for legal words of `explain`, every legal cell, any two tables and every grid of the cell, where the handset that the words
-- name is in the cell, its common sets exceed no limit in the slot, so that it has these watches, and the number that the words
-- give is below the number of these: the output is the lines of the watch of that number with the answer there, the error
-- output is empty, and the status is that of a job that was done
abbrev pub ExplainsEveryWatch : Type 0
ExplainsEveryWatch =
    (words : List (String Global)) (settings reliability input_order grid : List ℕ) (tables : Tables) (points : GridValue)
    (name word : List ℕ)
    (place : ℕ) (watches : List Watch)
    → legal words ≡ Some Explain
    → length settings ≤ limit → length reliability ≤ limit → length input_order ≤ limit → length grid ≤ limit
    → first_fault_in settings ≡ None → read_table 1024 reliability ≡ Ok tables.reliability
    → read_table 164 input_order ≡ Ok tables.input_order
    → reading_of grid ≡ Ok points → points.mu ≡ (raw_in settings).mu → points.blocks ≡ (raw_in settings).blocks
    → handset words ≡ Some name → watch words ≡ Some word
    → handset_named (raw_in settings) name ≡ Some place → planned (raw_in settings) place points.frame points.slot ≡ Ok watches
    → number_of word < length watches
    → ExplainsWatch tables points (watch_at watches (number_of word)) (number_of word)
    (outcome words (given_of settings ∷ given_of reliability ∷ given_of input_order ∷ given_of grid ∷ []))

-- the outcome of `sweep` is the summary of the totals of the first slots of the generated load, as many as the words say: from
-- 1 to 200
pub record SweepsSlots (words : List (String Global)) (tables : Tables) (found : Outcome) : Type 0 where
  pub is : found ≡ record {
    status = ends.Done;
    out = summary_text
        (map (slot_totals tables) (range_with_len 0 (slots words)));
    err = [];
  }
  pub least : 1 ≤ slots words
  pub most : slots words ≤ 200

-- for legal words of `sweep` and any two tables: the output is this summary on these tables, the error output is empty, and the
-- status is that of a job that was done
abbrev pub SweepsTheLoad : Type 0
SweepsTheLoad = (words : List (String Global)) (reliability input_order : List ℕ) (tables : Tables)
    → legal words ≡ Some Sweep
    → length reliability ≤ limit → length input_order ≤ limit
    → read_table 1024 reliability ≡ Ok tables.reliability → read_table 164 input_order ≡ Ok tables.input_order
    → SweepsSlots words tables (outcome words (given_of reliability ∷ given_of input_order ∷ []))
