use Rattle.std.proofs.Common.{length, rules}
use Rattle.bits_core.specs.Bits.{bit_of}
use Rattle.rate_match.proofs.Selected.{selected_all, selected_more}
use Rattle.rate_match.proofs.selection.select_core.Goals as goal

pub loop-at-preserved : goal.loop-at-preserved
loop-at-preserved c =
    let word = bit_of c.args.word.now in
    selected_more (length c.args.word.now) c.args.k c.args.e word c.loop-at.out c.push.new.self c.loop-at.at
    (word c.order_of.result) c.loop-at-test.true
    c.loop-at.invariant c.push.ensures (search rules)

pub returns : goal.returns
returns c =
    selected_all (length c.args.word.now) c.args.k c.args.e (bit_of c.args.word.now) c.loop-at.out c.loop-at.at
    c.loop-at-test.false c.loop-at.invariant
