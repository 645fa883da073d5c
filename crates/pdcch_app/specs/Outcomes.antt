-- The outcome of each command, step by step in the order of the work.
use Rattle.std.specs.Prelude.{ℕ, List, Option, Some, None, String}
use Rattle.std.specs.declared.alloc.Global.{Global}
use Rattle.table_files.specs.declared.tables.Tables.{Tables}
use Rattle.run_steps.specs.declared.statuses.Status.TheVariants as status
use Rattle.run_steps.specs.Outcome.{Outcome, Fetched, refused, ended, reading}
use Rattle.pdcch_app.specs.declared.arguments.Flag.TheVariants.{Handset, Watch}
use Rattle.pdcch_app.specs.declared.files.Basis.{Basis}
use Rattle.pdcch_app.specs.declared.words.Command.{Command}
use Rattle.pdcch_app.specs.declared.words.Command.TheVariants.{Write, Search, Explain, Sweep}
use Rattle.pdcch_app.specs.Checks.{settings_of, reliability_of, input_order_of, grants_of, grid_of}
use Rattle.pdcch_app.specs.Explaining.{explained}
use Rattle.pdcch_app.specs.Lines.{usage_line}
use Rattle.pdcch_app.specs.Reporting.{searched}
use Rattle.pdcch_app.specs.Sweeping.{swept}
use Rattle.pdcch_app.specs.Words.{legal, file, handset, slots, value}
use Rattle.pdcch_app.specs.Writing.{written}

-- the two tables of a run
abbrev pub both : List ℕ → List ℕ → Tables
both reliability input_order = record { reliability = reliability; input_order = input_order }

-- the two tables, each fetched and checked before the next step, which has both
abbrev pub reading_tables : List ℕ → List ℕ → (Tables → List Fetched → Outcome) → List Fetched → Outcome
reading_tables reliability input_order next =
    reading reliability_of reliability (λ r.
    reading input_order_of input_order (λ i. next (both r i)))

-- the settings and the two tables, each fetched and checked before the next step, which has the cell and both
abbrev pub reading_basis : List ℕ → List ℕ → List ℕ → (Basis → List Fetched → Outcome) → List Fetched → Outcome
reading_basis settings reliability input_order next =
    reading settings_of settings (λ cell.
    reading_tables reliability input_order (λ tables. next (record { cell = cell; tables = tables })))

-- `write`: the settings, the two tables and the grants, each fetched and checked before the next; then the grid of the grants
abbrev pub write_of : List ℕ → List ℕ → List ℕ → List ℕ → List Fetched → Outcome
write_of settings reliability input_order grants =
    reading_basis settings reliability input_order (λ basis.
    reading (grants_of basis.cell) grants (λ list _. ended (written basis.cell basis.tables list)))

-- `search`: the settings, the two tables and the grid, each fetched and checked before the next; then the report of the handset
-- that is named, or of all
abbrev pub search_of : Option (List ℕ) → List ℕ → List ℕ → List ℕ → List ℕ → List Fetched → Outcome
search_of named settings reliability input_order grid =
    reading_basis settings reliability input_order (λ basis.
    reading (grid_of basis.cell) grid (λ points _. ended (searched basis.cell basis.tables points named)))

-- `explain`: the same files; then the lines of one watch of the handset with a name, by the word for its number
abbrev pub explain_of : List ℕ → List ℕ → List ℕ → List ℕ → List ℕ → List ℕ → List Fetched → Outcome
explain_of name word settings reliability input_order grid =
    reading_basis settings reliability input_order (λ basis.
    reading (grid_of basis.cell) grid (λ points _. ended (explained basis.cell basis.tables points name word)))

-- `sweep`: the two tables, each fetched and checked before the next; then the summary of the first slots of the load
abbrev pub sweep_of : ℕ → List ℕ → List ℕ → List Fetched → Outcome
sweep_of slots reliability input_order = reading_tables reliability input_order (λ tables _. ended (swept tables slots))

-- the outcome of a command
abbrev pub served : Option Command → List (String Global) → List Fetched → Outcome
served None words gave = refused status.Usage usage_line
served (Some Write) words gave =
    write_of (file Write words 0) (file Write words 1) (file Write words 2) (file Write words 3) gave
served (Some Search) words gave =
    search_of (handset words) (file Search words 0) (file Search words 1) (file Search words 2) (file Search words 3) gave
served (Some Explain) words gave =
    explain_of (value words Handset) (value words Watch)
    (file Explain words 0) (file Explain words 1) (file Explain words 2) (file Explain words 3) gave
served (Some Sweep) words gave = sweep_of (slots words) (file Sweep words 0) (file Sweep words 1) gave

-- the outcome of a run with these words, over what each fetch gave
abbrev pub outcome : List (String Global) → List Fetched → Outcome
outcome words = served (legal words) words
