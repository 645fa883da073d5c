use Rattle.std.proofs.Common.{◌≡◌, ◌+◌, ◌*◌, ◌<◌, ◌∙◌, min, arith, length-set}
use Rattle.gold_scrambler.specs.Gold.{gold}
use Rattle.gold_scrambler.proofs.Fills.{word_more, row_of_words}
use Rattle.gold_scrambler.proofs.sequence.Gold.fill.Goals as goal

pub loop-index-preserved : goal.loop-index-preserved
loop-index-preserved c =
    let l = c.loop-index in
    let g = c.args.self.now in
    let more : 64 * l.index < c.args.count = omega (arith, c.div_ceil-index-end.ensures) in
    let word = rw (l.invariant.same_start, l.invariant.in_place) at c.next_word.ensures.bits in
    record {
      taken = word_more (gold g.c_init) g.at l.index c.min.result (min (64 * l.index) c.args.count)
          (min (64 * (l.index + 1)) c.args.count) l.words c.next_word.result (omega arith) (omega arith) (omega arith)
          (omega (arith, c.min.ensures)) l.invariant.taken word;
      size = length-set l.words l.index c.next_word.result ∙ l.invariant.size;
      in_place = omega (arith, c.next_word.ensures.at, l.invariant.in_place, c.min.ensures);
      same_start = c.next_word.ensures.c_init ∙ l.invariant.same_start;
    }

pub returns-clause-bits : goal.returns-clause-bits
returns-clause-bits c =
    let l = c.loop-index in
    let g = c.args.self.now in
    let all : min (64 * l.index) c.args.count ≡ c.args.count = omega (arith, c.div_ceil-index-end.ensures) in
    c.of_words.ensures ∙ row_of_words g.c_init g.at c.args.count l.words (rw all at l.invariant.taken)
