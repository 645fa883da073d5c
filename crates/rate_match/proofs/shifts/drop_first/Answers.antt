use Rattle.std.proofs.Common.{arith}
use Rattle.rate_match.proofs.WrittenWords.{dropped_more}
use Rattle.rate_match.proofs.shifts.drop_first.Goals as goal

pub loop-at-preserved : goal.loop-at-preserved
loop-at-preserved c =
    dropped_more c.args.words.now c.loop-at.words c.args.count c.loop-at.at c.word_from.result (omega arith)
    c.loop-at.invariant c.word_from.ensures
