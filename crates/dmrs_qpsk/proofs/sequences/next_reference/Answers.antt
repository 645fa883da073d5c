use Rattle.std.proofs.Common.{◌+◌, ◌*◌, ◌∙◌, arith}
use Rattle.dmrs_qpsk.specs.ReferencePoints.{reference, reference_start}
use Rattle.dmrs_qpsk.proofs.ReferencePairs.{point-from}
use Rattle.dmrs_qpsk.proofs.sequences.next_reference.Goals as goal

pub returns : goal.returns
unfolding reference
returns c =
    let a = c.args in
    c.point-point.ensures
    ∙ point-from c.before-standing.result.start (reference_start a.slot a.symbol a.id)
    (2 * (3 * c.from.result + c.from-2.result)) (3 * a.block + a.k)
    (c.before-standing.ensures.start ∙ c.sequence_start-start.ensures.value) (omega (arith, c.from.ensures, c.from-2.ensures))
