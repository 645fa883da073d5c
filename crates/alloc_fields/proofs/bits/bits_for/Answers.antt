use Rattle.std.proofs.Common.{◌^◌, ◌≤◌, arith, rules}
use Rattle.alloc_fields.proofs.LeastBits.{bits_for_is}
use Rattle.alloc_fields.proofs.bits.bits_for.Goals as goal

pub returns-then-from-bits-clause-value : goal.returns-then-from-bits-clause-value
returns-then-from-bits-clause-value c =
    let enough : c.args.n ≤ 2 ^ c.loop-bits.bits = search rules in
    bits_for_is c.args.n c.loop-bits.bits (omega arith) (record { enough = enough; least = c.loop-bits.invariant })

pub returns-clause-value : goal.returns-clause-value
returns-clause-value c =
    bits_for_is c.args.n 32 (omega arith) (record { enough = omega arith; least = λ k h. c.loop-bits.invariant k (omega arith) })
