use Rattle.std.proofs.Common.{refl, ◌∙◌, arith}
use Rattle.dmrs_qpsk.proofs.KeptBits.{one_word_more, word_of_row}
use Rattle.dmrs_qpsk.proofs.references.words_of.Goals as goal

pub loop-index-init : goal.loop-index-init
loop-index-init c = record {
  same_start = c.new-gold.ensures.c_init;
  in_place = c.new-gold.ensures.at;
  bits = record { size = refl; bit = λ index i l m. absurd (omega (arith, l)) };
}

pub loop-index-preserved : goal.loop-index-preserved
loop-index-preserved c =
    let l = c.loop-index in
    let row = rw l.invariant.same_start at c.fill.ensures.bits in
    record {
      same_start = c.fill.ensures.c_init ∙ l.invariant.same_start;
      in_place = omega (arith, c.fill.ensures.at, l.invariant.in_place);
      bits = one_word_more c.args.start l.index l.words c.word.result c.loop-index-test.true l.invariant.bits
          (word_of_row c.args.start l.gold.at l.index c.word.result c.fill.new.out row l.invariant.in_place c.word.ensures);
    }

pub returns : goal.returns
returns c =
    let l = c.loop-index in
    let h = l.invariant.bits in
    record { size = h.size; bit = λ index i m k. h.bit index i (omega (arith, m, c.loop-index-test.false)) k }
