use Rattle.std.proofs.Common.{ap, ◌∙◌, arith}
use Rattle.gold_scrambler.specs.Gold.{gold, GoldValue}
use Rattle.gold_scrambler.proofs.States.{bit_here, standing_more}
use Rattle.gold_scrambler.proofs.sequence.Gold.next_bit.Goals as goal

pub invariant_of-self : goal.invariant_of-self
invariant_of-self c =
    let here = ap (λ (g : GoldValue). g.at) c.self.view_is in
    standing_more _ _ _ _ _ _ c.self.invariant (omega arith) c.next_first-self-inside.ensures.next
    c.next_second-self-inside.ensures.next
    c.next_first-self-inside.ensures.small c.next_second-self-inside.ensures.small

pub returns-clause-bit : goal.returns-clause-bit
returns-clause-bit c = bit_here _ _ _ _ c.self.invariant ∙ ap (λ (g : GoldValue). gold g.c_init g.at) c.self.view_is
