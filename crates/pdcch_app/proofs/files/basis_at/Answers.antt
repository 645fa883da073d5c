use Rattle.std.proofs.lemmas.Result.{err_from_is_err_and}
use Rattle.std.proofs.Common.{List, ℕ}
use Rattle.rrc_settings.specs.declared.settings.RawCell.{RawCell}
use Rattle.table_files.specs.declared.tables.Tables.{Tables}
use Rattle.run_steps.specs.Outcome.{Fetched, Outcome}
use Rattle.run_steps.proofs.Working.{begins_as, begins_step, begins_stop, begins_stopped}
use Rattle.pdcch_app.specs.declared.files.Basis.{Basis}
use Rattle.pdcch_app.specs.Outcomes.{reading_tables}
use Rattle.pdcch_app.proofs.files.basis_at.Goals as goal

-- what is handed on: a cell and both tables
abbrev over : RawCell → Tables → Basis
over cell tables = record { cell = cell; tables = tables }

-- what follows the settings, where the next step has a cell and both tables
abbrev behind : List ℕ → List ℕ → RawCell → (Basis → List Fetched → Outcome) → List Fetched → Outcome
behind reliability input_order cell next = reading_tables reliability input_order (λ tables. next (over cell tables))

pub returns-in_err-cell-clause-begins : goal.returns-in_err-cell-clause-begins
returns-in_err-cell-clause-begins g c =
    let p = err_from_is_err_and c.from_residual.result c.from_residual.ensures.1 in
    rw (p.1, p.2) (begins_stop (behind c.args.reliability.now c.args.input_order.now) _ c.in_err-cell.ensures.step)

pub returns-in_err-tables-clause-begins : goal.returns-in_err-tables-clause-begins
returns-in_err-tables-clause-begins g c =
    let p = err_from_is_err_and c.from_residual-in_err-tables.result c.from_residual-in_err-tables.ensures.1 in
    rw (p.1, p.2) (begins_step (behind c.args.reliability.now c.args.input_order.now) c.in_ok-cell.ensures.step
    (begins_stopped (over c.in_ok-cell.cell) c.in_err-tables.ensures.begins))

pub returns-clause-begins : goal.returns-clause-begins
returns-clause-begins g c =
    begins_step (behind c.args.reliability.now c.args.input_order.now) c.in_ok-cell.ensures.step
    (begins_as (over c.in_ok-cell.cell) c.in_ok-tables.ensures.begins)
