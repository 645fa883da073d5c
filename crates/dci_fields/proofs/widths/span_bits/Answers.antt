use Rattle.dci_fields.proofs.AssignmentWidths.{spans_le}
use Rattle.dci_fields.proofs.widths.span_bits.Goals as goal

pub returns-clause-most : goal.returns-clause-most
returns-clause-most c = c.bits_for.ensures.least 16 (spans_le c.from-n.result c.args.n c.from-n.ensures c.requires.most)
