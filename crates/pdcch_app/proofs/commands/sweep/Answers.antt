use Rattle.std.proofs.Common.{refl}
use Rattle.std.proofs.lemmas.Result.{err_from_is_err_and}
use Rattle.run_steps.specs.Outcome.{ended}
use Rattle.run_steps.proofs.Working.{work_job}
use Rattle.pdcch_app.specs.Sweeping.{swept}
use Rattle.pdcch_app.proofs.commands.sweep.Goals as goal

pub returns-in_err-tables : goal.returns-in_err-tables
returns-in_err-tables g c =
    let p = err_from_is_err_and c.from_residual.result c.from_residual.ensures.1 in
    rw (p.1, p.2) (c.in_err-tables.ensures.begins.stops _ refl (λ tables _. ended (swept tables c.args.slots)) _)

pub returns : goal.returns
returns g c =
    c.in_ok-tables.ensures.begins.goes_on _ refl (λ tables _. ended (swept tables c.args.slots)) _ _ _
    (work_job (swept c.in_ok-tables.tables c.args.slots) c.sweep_text.ensures)
