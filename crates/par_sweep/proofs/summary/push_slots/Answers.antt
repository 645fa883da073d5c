use Rattle.plain_text.proofs.Appending.{begun_at, appends_begun}
use Rattle.par_sweep.specs.Summary.{slot_line}
use Rattle.par_sweep.proofs.summary.push_slots.Goals as goal

pub returns-in_err-push_slot : goal.returns-in_err-push_slot
returns-in_err-push_slot c =
    appends_begun c.from_residual.result c.from_residual.ensures.0
    (begun_at slot_line c.args.totals.now c.loop-slot.slot-index _ c.in_err-push_slot.ensures.prefix c.loop-slot.invariant
    c.loop-slot-test.true)
