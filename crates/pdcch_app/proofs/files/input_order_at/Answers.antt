use Rattle.std.proofs.lemmas.Result.{err_from_is_err_and}
use Rattle.run_steps.proofs.Working.{checked-step, stopped_step}
use Rattle.pdcch_app.specs.Checks.{input_order_of}
use Rattle.pdcch_app.proofs.files.input_order_at.Goals as goal

pub returns-in_err-text-clause-step : goal.returns-in_err-text-clause-step
returns-in_err-text-clause-step g c =
    let p = err_from_is_err_and c.from_residual.result c.from_residual.ensures.1 in
    rw (p.1, p.2) (stopped_step (input_order_of) c.in_err-text.ensures.step)

pub returns-clause-step : goal.returns-clause-step
returns-clause-step g c =
    checked-step (input_order_of) c.in_ok-text.ensures.step (rw c.as_slice.ensures at c.input_order_in.ensures)
