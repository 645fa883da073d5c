use Rattle.std.proofs.Common.{◌-◌, arith, ◌∙◌}
use Rattle.std.proofs.lemmas.Bool.{iff_false}
use Rattle.crc_mask.proofs.Copies.{copied_two}
use Rattle.crc_mask.proofs.Masks.{stripped, not_stripped}
use Rattle.crc_mask.proofs.mask.strip.Goals as goal

pub returns-then-slice_eq : goal.returns-then-slice_eq
returns-then-slice_eq c =
    stripped c.args.bits.now c.of_words-payload.result c.attach.result c.args.rnti c.attach.ensures.block
    (c.slice_eq.ensures.0 c.if-slice_eq.true)

pub returns-else-slice_eq : goal.returns-else-slice_eq
returns-else-slice_eq c =
    not_stripped c.args.bits.now c.of_words-payload.result c.attach.result c.args.rnti (c.len-size.result - 24)
    c.attach.ensures.block
    (c.of_words-payload.ensures
    ∙ copied_two c.word.result c.word-2.result c.args.bits.now (c.len-size.result - 24) (omega arith) (omega arith)
    (record { each = c.word.ensures }) (record { each = c.word-2.ensures }))
    (omega arith)
    (iff_false c.slice_eq.ensures c.if-slice_eq.false)
