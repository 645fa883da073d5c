use Rattle.std.proofs.Common.{arith}
use Rattle.std.proofs.Math.Facts.{Fits-of_lt}
use Rattle.rate_match.proofs.Lengths.{least_by_doubling, least_most}
use Rattle.rate_match.proofs.length.least_power.Goals as goal

pub overflow_add-exponent : goal.overflow_add-exponent
overflow_add-exponent c =
    let l = c.loop-power in
    let most = least_most c.args.x l.power l.exponent 11 l.invariant.power l.invariant.least (omega arith) in
    Fits-of_lt (omega arith)

pub returns-clause-power : goal.returns-clause-power
returns-clause-power c =
    let l = c.loop-power in
    least_by_doubling c.args.x l.power l.exponent l.invariant.power (omega arith) l.invariant.least

pub returns-clause-most : goal.returns-clause-most
returns-clause-most c =
    let l = c.loop-power in
    least_most c.args.x l.power l.exponent 11 l.invariant.power l.invariant.least (omega arith)
