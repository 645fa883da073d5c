use Rattle.std.proofs.lemmas.Result.{err_from_is_err_and}
use Rattle.run_steps.proofs.Working.{begins_end, begins_step, begins_stop}
use Rattle.run_steps.specs.Outcome.{reading}
use Rattle.pdcch_app.specs.Checks.{input_order_of}
use Rattle.pdcch_app.specs.Outcomes.{both}
use Rattle.pdcch_app.proofs.files.tables_at.Goals as goal

pub returns-in_err-reliability-clause-begins : goal.returns-in_err-reliability-clause-begins
returns-in_err-reliability-clause-begins g c =
    let p = err_from_is_err_and c.from_residual.result c.from_residual.ensures.1 in
    rw (p.1, p.2) (begins_stop (λ r next. reading input_order_of c.args.input_order.now (λ i. next (both r i))) _
    c.in_err-reliability.ensures.step)

pub returns-in_err-input_order-clause-begins : goal.returns-in_err-input_order-clause-begins
returns-in_err-input_order-clause-begins g c =
    let p = err_from_is_err_and c.from_residual-in_err-input_order.result c.from_residual-in_err-input_order.ensures.1 in
    rw (p.1, p.2) (begins_step (λ r next. reading input_order_of c.args.input_order.now (λ i. next (both r i)))
    c.in_ok-reliability.ensures.step
    (begins_stop (λ i next. next (both c.in_ok-reliability.reliability i)) _ c.in_err-input_order.ensures.step))

pub returns-clause-begins : goal.returns-clause-begins
returns-clause-begins g c =
    let tables = both c.in_ok-reliability.reliability c.in_ok-input_order.input_order in
    begins_step (λ r next. reading input_order_of c.args.input_order.now (λ i. next (both r i))) c.in_ok-reliability.ensures.step
    (begins_step (λ i next. next (both c.in_ok-reliability.reliability i)) c.in_ok-input_order.ensures.step
    (begins_end tables _))
