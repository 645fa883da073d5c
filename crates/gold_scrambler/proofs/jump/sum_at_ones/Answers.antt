use Rattle.std.proofs.Common.{◌≡◌, ◌+◌, ◌%◌, ◌^◌, ◌<◌, ℕ, sym, ◌∙◌, subst, arith}
use Rattle.gold_scrambler.specs.Gold.{state2}
use Rattle.gold_scrambler.proofs.Recurrences.{small2}
use Rattle.gold_scrambler.proofs.SingleBits.{no_bits, of_single, one_added, none_added, all_bits}
use Rattle.gold_scrambler.proofs.jump.sum_at_ones.Goals as goal
use Rattle.gold_scrambler.proofs.jump.sum_at_ones.Goals.{then-c_init-bit-eq1, else-c_init-bit-eq1}

pub loop-bit-init : goal.loop-bit-init
loop-bit-init c = no_bits c.args.c_init

pub loop-bit-preserved : goal.loop-bit-preserved
loop-bit-preserved c =
    let l = c.loop-bit in
    elim c.if-c_init-bit-eq1.branch as (λ _. c.if-c_init-bit-eq1.sum ≡ state2 (c.args.c_init % 2 ^ (l.bit + 1)) 1600) [
      | then-c_init-bit-eq1 w ↦
          let single = of_single c.args.singles.now l.bit c.requires.singles (omega arith) in
          w.sum-is ∙ one_added c.args.c_init l.bit l.sum _ (omega arith) w.if-c_init-bit-eq1.true l.invariant single
      | else-c_init-bit-eq1 w ↦ w.sum-is ∙ none_added c.args.c_init l.bit l.sum w.if-c_init-bit-eq1.false l.invariant
    ]

pub returns-clause-register : goal.returns-clause-register
returns-clause-register c =
    all_bits c.args.c_init c.loop-bit.bit c.loop-bit.sum (omega arith) c.requires.start c.loop-bit.invariant

pub returns-clause-small : goal.returns-clause-small
returns-clause-small c =
    let is = all_bits c.args.c_init c.loop-bit.bit c.loop-bit.sum (omega arith) c.requires.start c.loop-bit.invariant in
    subst (λ (s : ℕ). s < 2 ^ 31) (sym is) (small2 c.args.c_init 1600 c.requires.start)
