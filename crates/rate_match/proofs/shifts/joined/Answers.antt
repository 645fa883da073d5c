use Rattle.std.proofs.Common.{arith}
use Rattle.rate_match.proofs.ShiftedBits.{joined_bits}
use Rattle.rate_match.proofs.shifts.joined.Goals as goal

pub returns-else-shift-eq0 : goal.returns-else-shift-eq0
returns-else-shift-eq0 c = joined_bits c.args.low c.args.high c.args.shift (omega arith) (omega arith) c.requires
