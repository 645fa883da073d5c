use Rattle.std.proofs.Common.{◌≡◌, ◌+◌, ◌-◌, arith}
use Rattle.gold_scrambler.specs.Gold.{gold}
use Rattle.gold_scrambler.proofs.Stretches.{three_joined}
use Rattle.gold_scrambler.proofs.sequence.Gold.next_word.Goals as goal

pub returns-clause-bits : goal.returns-clause-bits
returns-clause-bits c =
    let low = c.min-low.result in
    let middle = c.min-middle.result in
    let high = c.args.count - low - middle in
    let whole : low + middle + high ≡ c.args.count = omega (arith, c.min-low.ensures, c.min-middle.ensures) in
    let second = rw (c.next_bits.ensures.c_init, c.next_bits.ensures.at) at c.next_bits-2.ensures.bits in
    let third =
    rw (c.next_bits-2.ensures.c_init, c.next_bits-2.ensures.at, c.next_bits.ensures.c_init, c.next_bits.ensures.at) at
    c.next_bits-3.ensures.bits
    in
    let x = gold c.args.self.now.c_init in
    rw (← whole)
    (three_joined x c.args.self.now.at low middle high c.next_bits.result c.next_bits-2.result c.next_bits-3.result
    (omega arith) c.next_bits.ensures.small c.next_bits-2.ensures.small c.next_bits-3.ensures.small
    c.next_bits.ensures.bits second third)
