use Rattle.std.proofs.Common.{◌≡◌, arith, false, refl, sym, true}
use Rattle.bits_core.specs.Bits.{bit_of}
use Rattle.bits_core.specs.Row.{word_bit}
use Rattle.polar_chain.proofs.KnownWords.{is_wrong, right_more, right_where_zero, some_wrong, word_astray, zero_where_right}
use Rattle.polar_chain.proofs.others.others_are_zero.Goals as goal

pub returns-then-astray-ne0 : goal.returns-then-astray-ne0
returns-then-astray-ne0 c =
    let at = c.loop-at.at in
    let u = bit_of c.args.word.now in
    let tested = word_bit c.args.tested.now in
    let v = c.astray.result in (
      (λ never. absurd (let wrong : true ≡ false = sym never in cc)),
      (λ clear.
          absurd
          (some_wrong (is_wrong u tested) at v c.astray.type_inv c.loop-at-test.true
          (word_astray c.args.word.now c.args.tested.now at c.word.result v c.word.ensures c.astray.ensures)
          c.if-astray-ne0.true
          (λ i l. right_where_zero (u i) (tested i) (clear i l)))),
    )

pub loop-at-preserved : goal.loop-at-preserved
loop-at-preserved c =
    let at = c.loop-at.at in
    let v = c.astray.result in
    right_more (is_wrong (bit_of c.args.word.now) (word_bit c.args.tested.now)) at v
    (word_astray c.args.word.now c.args.tested.now at c.word.result v c.word.ensures c.astray.ensures)
    c.if-astray-ne0.false c.loop-at.invariant

pub returns : goal.returns
returns c = (
  (λ t i l is.
      zero_where_right (bit_of c.args.word.now i) (word_bit c.args.tested.now i) (c.loop-at.invariant i (omega arith)) is),
  (λ clear. refl),
)
