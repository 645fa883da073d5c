use Rattle.dmrs_qpsk.proofs.DataOrder.{references_are_in_order}
use Rattle.dmrs_qpsk.proofs.laws.references_in_order.Goals as goal

pub returns : goal.returns
returns c = references_are_in_order
