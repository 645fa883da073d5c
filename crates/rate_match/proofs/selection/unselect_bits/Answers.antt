use Rattle.std.proofs.Common.{length, arith, rules}
use Rattle.rate_match.proofs.Unselected.{put_more, unselected}
use Rattle.rate_match.proofs.selection.unselect_bits.Goals as goal

pub loop-at-preserved : goal.loop-at-preserved
loop-at-preserved c =
    let n = length c.args.word.now in
    let same = c.len-e.ensures.value in
    put_more n c.args.k c.args.bits.now c.loop-at.word c.loop-at.at c.order_of.result c.get.result c.requires.size
    (omega arith) (omega arith)
    (search rules) c.get.ensures c.loop-at.invariant

pub returns : goal.returns
returns c =
    let same = c.len-e.ensures.value in
    unselected (length c.args.word.now) c.args.k c.args.bits.now c.loop-at.word c.loop-at.at c.requires.size (search rules)
    c.requires.same c.loop-at.invariant
