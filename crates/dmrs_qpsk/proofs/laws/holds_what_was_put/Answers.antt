use Rattle.dmrs_qpsk.proofs.PutAndTaken.{holds_what_was_put}
use Rattle.dmrs_qpsk.proofs.laws.holds_what_was_put.Goals as goal

pub returns : goal.returns
returns c = holds_what_was_put
