use Rattle.dmrs_qpsk.proofs.DataOrder.{data_are_in_order}
use Rattle.dmrs_qpsk.proofs.laws.data_in_order.Goals as goal

pub returns : goal.returns
returns c = data_are_in_order
