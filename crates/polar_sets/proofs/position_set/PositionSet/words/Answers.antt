use Rattle.std.proofs.Common.{ℕ, List, Bool, ◌≡◌, ◌+◌, ◌*◌}
use Rattle.std.proofs.Common.{ap, arith, below_more, false, get_or, get_or-set_other, get_or-set_same}
use Rattle.std.proofs.Common.{length, length-set, set, sym, ◌∙◌, ◌<◌}
use Rattle.std.proofs.lemmas.List.FromFn.{fill_by_all}
use Rattle.bits_core.specs.Bits.{bit_of}
use Rattle.bits_core.specs.Ones.{has_one}
use Rattle.bits_core.specs.Row.{word_bit}
use Rattle.bits_core.proofs.RowWords.{word_bit-of_words}
use Rattle.polar_sets.proofs.position_set.PositionSet.words.Goals as goal

pub loop-at-preserved : goal.loop-at-preserved
loop-at-preserved c =
    let l = c.loop-at in
    let words = l.words in
    let word = c.word.result in
    let bits = bit_of c.args.self.now in
    let inside : l.at < length words = (let long = l.invariant.len in omega arith) in
    record {
      len = length-set words l.at word ∙ l.invariant.len;
      held =
          below_more (λ a. (i : ℕ) → i < 64 → has_one (get_or (set words l.at word) a 0) i ≡ bits (64 * a + i)) l.at
          (λ a b i h.
          ap (λ (w : ℕ). has_one w i) (get_or-set_other words l.at a word 0 (λ same. omega arith)) ∙ l.invariant.held a b i h)
          (λ i h.
          ap (λ (w : ℕ). has_one w i) (get_or-set_same words l.at word 0 inside)
          ∙ c.word.ensures i h
          ∙ ap (λ (flags : List Bool). bit_of flags (64 * l.at + i)) c.self.view_is);
    }

pub returns : goal.returns
returns c =
    let l = c.loop-at in
    let long : length l.words ≡ 8 = l.invariant.len in
    let wide : length c.args.self.now ≡ 512 = ap (λ (bits : List Bool). length bits) (sym c.self.view_is) ∙ c.self.invariant in
    let held : (a : ℕ) → a < length l.words → (i : ℕ) → i < 64 → has_one (get_or l.words a 0) i
    ≡ bit_of c.args.self.now (64 * a + i) = λ a b. l.invariant.held a (omega arith) in
    sym
    (fill_by_all (word_bit l.words) c.args.self.now 512 false wide
    (λ i h. sym (word_bit-of_words l.words (bit_of c.args.self.now) held i (omega arith))))
