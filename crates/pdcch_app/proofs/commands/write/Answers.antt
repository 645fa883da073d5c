use Rattle.std.proofs.Common.{refl}
use Rattle.std.proofs.lemmas.Result.{err_from_is_err_and}
use Rattle.run_steps.specs.Outcome.{ended, reading}
use Rattle.run_steps.proofs.Working.{work_stop, work_step, work_job}
use Rattle.pdcch_app.specs.Checks.{grants_of}
use Rattle.pdcch_app.specs.Writing.{written}
use Rattle.pdcch_app.proofs.commands.write.Goals as goal

pub returns-in_err-basis : goal.returns-in_err-basis
returns-in_err-basis g c =
    let p = err_from_is_err_and c.from_residual.result c.from_residual.ensures.1 in
    rw (p.1, p.2) (c.in_err-basis.ensures.begins.stops _ refl
    (λ basis. reading (grants_of basis.cell) c.args.grants.now (λ list _. ended (written basis.cell basis.tables list))) _)

pub returns-in_err-list : goal.returns-in_err-list
returns-in_err-list g c =
    let p = err_from_is_err_and c.from_residual-in_err-list.result c.from_residual-in_err-list.ensures.1 in
    rw (p.1, p.2) (c.in_ok-basis.ensures.begins.goes_on _ refl
    (λ basis. reading (grants_of basis.cell) c.args.grants.now (λ list _. ended (written basis.cell basis.tables list))) _ _ _
    (work_stop _ _ c.in_err-list.ensures.step))

pub returns : goal.returns
returns g c =
    let basis = c.in_ok-basis.basis in
    c.in_ok-basis.ensures.begins.goes_on _ refl
    (λ basis. reading (grants_of basis.cell) c.args.grants.now (λ list _. ended (written basis.cell basis.tables list))) _ _ _
    (work_step _ c.in_ok-list.ensures.step
    (work_job (written basis.cell basis.tables c.in_ok-list.list) c.write_text.ensures))
