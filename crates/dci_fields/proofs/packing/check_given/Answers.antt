use Rattle.std.proofs.Common.{None, get_or, sym, ◌∙◌}
use Rattle.dci_fields.specs.declared.fault.Given.{Given}
use Rattle.dci_fields.proofs.GivenLists.{known_more, fits_width}
use Rattle.dci_fields.proofs.packing.check_given.Goals as goal

pub loop-at-preserved : goal.loop-at-preserved
loop-at-preserved c =
    let d : Given = record { name = None; value = 0 } in
    known_more c.args.rows.now c.args.format c.args.given.now c.loop-at.at d c.in-Some.width c.loop-at-test.true
    c.loop-at.invariant
    (sym c.width_for.ensures.value ∙ c.in-Some.is)
    (fits_width (get_or c.args.given.now c.loop-at.at d).value c.in-Some.width c.if-is_large.false)
