use Rattle.dci_codec.proofs.CodableBlocks.{enough_by}
use Rattle.dci_codec.proofs.coding.code_at.Goals as goal

pub of-requires-clause-enough : goal.of-requires-clause-enough
of-requires-clause-enough c = enough_by c.args.watch.now c.from.result c.from-2.result c.requires c.from.ensures c.from-2.ensures
