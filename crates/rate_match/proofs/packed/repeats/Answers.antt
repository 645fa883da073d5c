use Rattle.std.proofs.Common.{◌≡◌, length, ap, sym, ◌∙◌, arith}
use Rattle.bits_core.specs.Row.{row_bits}
use Rattle.rate_match.proofs.Ordered.{repeats_by_row}
use Rattle.rate_match.proofs.Unselected.{positive}
use Rattle.rate_match.proofs.packed.repeats.Goals as goal

pub returns : goal.returns
returns c =
    let bits = c.args.bits.now in
    let repeated = c.repeat.new.words in
    let row : c.of_words.result ≡ row_bits repeated (length bits) =
    c.of_words.ensures ∙ ap (row_bits repeated) c.len-len.ensures.value
    in
    let some = positive c.args.n c.requires.size in
    let same =
    repeats_by_row c.args.n bits c.words_of-words.result repeated some (omega arith) c.requires.most c.words_of-words.ensures
    (λ i l. c.repeat.ensures.repeated i (omega arith))
    in
    ((λ h. same.0 (sym row ∙ c.slice_eq.ensures.0 h)), (λ each. c.slice_eq.ensures.1 (row ∙ same.1 each)))
