use Rattle.std.proofs.Common.{arith}
use Rattle.rate_match.proofs.WrittenWords.{repeated_more}
use Rattle.rate_match.proofs.shifts.repeat.Goals as goal

pub loop-at-preserved : goal.loop-at-preserved
loop-at-preserved c =
    repeated_more c.args.words.now c.loop-at.words c.args.n c.fill_period-period.result c.loop-at.at
    c.fill_period-period.ensures.whole c.fill_period-period.ensures.some (omega arith) (omega arith) c.loop-at.invariant
