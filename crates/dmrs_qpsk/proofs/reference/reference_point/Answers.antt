use Rattle.std.proofs.Common.{◌+◌, ◌*◌, ◌∙◌, arith}
use Rattle.dmrs_qpsk.specs.ReferencePoints.{reference, reference_start}
use Rattle.dmrs_qpsk.proofs.ReferencePairs.{pair_is}
use Rattle.dmrs_qpsk.proofs.reference.reference_point.Goals as goal

pub returns : goal.returns
unfolding reference
returns c =
    let a = c.args in
    let start = c.skip.ensures.c_init ∙ c.new-gold.ensures.c_init ∙ c.sequence_start.ensures.value in
    c.qpsk_point.ensures
    ∙ pair_is (reference_start a.slot a.symbol a.id) (3 * a.block + a.k) c.skip.new.self c.next_bit-first.new.self
    c.next_bit-first.result c.next_bit-second.result c.next_bit-first.ensures.bit c.next_bit-second.ensures.bit
    start (omega arith) (c.next_bit-first.ensures.c_init ∙ start) (omega arith)
