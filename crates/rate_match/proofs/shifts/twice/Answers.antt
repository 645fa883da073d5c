use Rattle.rate_match.proofs.ShiftedBits.{twice_bits}
use Rattle.rate_match.proofs.shifts.twice.Goals as goal

pub returns : goal.returns
returns c = twice_bits c.args.word
