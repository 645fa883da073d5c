use Rattle.std.proofs.Common.{◌∙◌, arith}
use Rattle.bits_core.proofs.Numbers.{one_more_bit, all_bits}
use Rattle.bits_core.proofs.row.BitRow.append_number.Goals as goal

pub loop-at-preserved : goal.loop-at-preserved
loop-at-preserved g c =
    c.push.ensures ∙ one_more_bit c.args.self.now c.loop-at.self c.args.width c.args.value c.loop-at.at c.loop-at-test.true
    c.loop-at.invariant

pub returns : goal.returns
returns g c = all_bits c.args.self.now c.loop-at.self c.args.width c.args.value c.loop-at.at (omega arith) c.loop-at.invariant
