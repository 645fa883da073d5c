use Rattle.std.proofs.Common.{◌≡◌, ◌+◌, ◌-◌, ◌*◌, ◌<◌, ◌∙◌, min, length, length-set, arith, subst}
use Rattle.std.specs.Int.RustNames.{bit_xor}
use Rattle.gold_scrambler.specs.Stretches.{HasBits}
use Rattle.gold_scrambler.proofs.Fills.{word_more}
use Rattle.dci_codec.specs.Scrambling.{scrambled_bit}
use Rattle.dci_codec.proofs.Scrambles.{word_of_sums, row_of_sums}
use Rattle.dci_codec.proofs.scrambling.scramble.Goals as goal

pub loop-at-preserved : goal.loop-at-preserved
loop-at-preserved c =
    let l = c.loop-at in
    let c_init = c.args.c_init in
    let bits = c.args.bits.now in
    let len = length bits in
    let word = bit_xor c.word.result c.word-in-loop-at.result in
    let count = min (len - 64 * l.at) 64 in
    let more : 64 * l.at < len = omega (arith, c.div_ceil-at-end.ensures, c.len-len.ensures.value) in
    let place : 64 * l.at ≡ 0 + min (64 * l.at) len = omega arith in
    let sequence = rw (c.new.ensures.c_init, c.new.ensures.at, c.len-len.ensures.value) at c.fill.ensures.bits in
    let sums = word_of_sums c_init bits c.fill.new.out l.at count c.word.result c.word-in-loop-at.result sequence
    (omega arith) (omega arith) c.word.ensures c.word-in-loop-at.ensures
    in
    record {
      size = length-set l.words l.at word ∙ l.invariant.size;
      sums = word_more (scrambled_bit c_init bits) 0 l.at count (min (64 * l.at) len) (min (64 * (l.at + 1)) len) l.words word
          (omega (arith, l.invariant.size)) (omega arith) (omega arith) (omega arith) l.invariant.sums
          (subst (λ n. HasBits (scrambled_bit c_init bits) n count word) place sums);
    }

pub returns : goal.returns
returns c =
    let l = c.loop-at in
    let bits = c.args.bits.now in
    let all : min (64 * l.at) (length bits) ≡ length bits = omega (arith, c.div_ceil-at-end.ensures, c.len-len.ensures.value) in
    rw (c.of_words.ensures, c.len-len.ensures.value) (row_of_sums c.args.c_init bits l.words (rw all at l.invariant.sums))
