use Rattle.std.proofs.Common.{◌∙◌, ◌&&◌, Bool, List, ap, arith, length-set, not, sym}
use Rattle.bits_core.specs.Bits.{bit_of}
use Rattle.bits_core.specs.Row.{word_bit}
use Rattle.bits_core.proofs.RowWords.{bit_of-row}
use Rattle.rate_match.proofs.Subblocks.{in_subblocks}
use Rattle.polar_chain.proofs.KnownWords.{legal_length, tested_more, tested_of_known}
use Rattle.polar_chain.proofs.known.tested_words.Goals as goal

pub loop-at-preserved : goal.loop-at-preserved
loop-at-preserved c =
    let l = c.loop-at in
    record {
      len = length-set l.words l.at c.without.result ∙ l.invariant.len;
      held =
          tested_more c.known_words-known.result c.words-carrying.result l.words l.at c.without.result
          (let long = l.invariant.len in omega arith) c.without.ensures l.invariant.held;
    }

pub returns : goal.returns
returns c =
    let n = c.args.n in
    let known = word_bit c.known_words-known.result in
    let carrying = c.words-carrying.result in
    let info = bit_of c.args.positions.now in
    let tested = word_bit c.loop-at.words in
    let is = legal_length n c.args.k c.args.e c.requires.size in
    tested_of_known n c.args.k c.args.e known info tested is (in_subblocks n is).limit c.known_words-known.ensures
    (λ i l.
    c.loop-at.invariant.held i (omega arith)
    ∙ ap (λ (b : Bool). known i && not b)
    (sym (bit_of-row carrying 512 i l) ∙ ap (λ (flags : List Bool). bit_of flags i) c.words-carrying.ensures))
