use Rattle.std.proofs.Common.{refl}
use Rattle.std.proofs.lemmas.Result.{err_from_is_err_and}
use Rattle.run_steps.specs.Outcome.{ended, reading}
use Rattle.run_steps.proofs.Working.{work_stop, work_step, work_job}
use Rattle.pdcch_app.specs.Checks.{grid_of}
use Rattle.pdcch_app.specs.Reporting.{searched}
use Rattle.pdcch_app.specs.Words.{handset}
use Rattle.pdcch_app.proofs.commands.search.Goals as goal

pub returns-in_err-basis : goal.returns-in_err-basis
returns-in_err-basis g c =
    let p = err_from_is_err_and c.from_residual.result c.from_residual.ensures.1 in
    rw (p.1, p.2) (c.in_err-basis.ensures.begins.stops _ refl
    (λ basis. reading (grid_of basis.cell) c.args.grid.now (λ points _.
    ended (searched basis.cell basis.tables points (handset c.args.words.now)))) _)

pub returns-in_err-points : goal.returns-in_err-points
returns-in_err-points g c =
    let p = err_from_is_err_and c.from_residual-in_err-points.result c.from_residual-in_err-points.ensures.1 in
    rw (p.1, p.2) (c.in_ok-basis.ensures.begins.goes_on _ refl
    (λ basis. reading (grid_of basis.cell) c.args.grid.now (λ points _.
    ended (searched basis.cell basis.tables points (handset c.args.words.now)))) _ _ _
    (work_stop _ _ c.in_err-points.ensures.step))

pub returns : goal.returns
returns g c =
    let basis = c.in_ok-basis.basis in
    c.in_ok-basis.ensures.begins.goes_on _ refl
    (λ basis. reading (grid_of basis.cell) c.args.grid.now (λ points _.
    ended (searched basis.cell basis.tables points (handset c.args.words.now)))) _ _ _
    (work_step _ c.in_ok-points.ensures.step
    (work_job (searched basis.cell basis.tables c.in_ok-points.points (handset c.args.words.now)) c.search_text.ensures))
