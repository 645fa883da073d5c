use Rattle.std.proofs.Common.{ℕ, ◌≡◌, ◌^◌, ap, arith, refl, subst, sym, ◌∙◌, length}
use Rattle.std.proofs.lemmas.Bool.{iff_false}
use Rattle.bits_core.specs.Bits.{bit_of}
use Rattle.rate_match.specs.Repeats.{IsFirstDiffering, RepeatsBelow}
use Rattle.polar_chain.specs.CodeShape.{CodeShape, shape, word_len}
use Rattle.polar_chain.specs.Decoding.{HasNoBlock, IsBlockOf}
use Rattle.polar_chain.specs.Reading.{IsRead}
use Rattle.polar_chain.proofs.BitCarriers.{carriers_within, read_by_carriers}
use Rattle.polar_chain.proofs.CodeSteps.{IsInput, block_is_read, input_of_words, none_of_others}
use Rattle.polar_chain.proofs.KnownWords.{others_of_tested, row_long}
use Rattle.polar_chain.proofs.code.Code.decode_core.Goals as goal
use Rattle.polar_chain.proofs.code.Code.decode_core.Goals.{After-read, In-Err, Then-not-others_are_zero}

pub returns-in-Err-clause-outcome : goal.returns-in-Err-clause-outcome
returns-in-Err-clause-outcome c =
    let size : 2 ^ c.exponent_of-n.result ≡ word_len c.args.self.now =
    c.exponent_of-n.ensures.power ∙ c.length_for-len.ensures.length ∙ ap word_len c.self.view_is in
    subst (λ (n : ℕ). IsFirstDiffering n c.args.bits.now c.in-Err.field-0.at) size
    ((c.in-Err.ensures.differs c.in-Err.field-0).0 refl)

repeats : (c : Then-not-others_are_zero) → RepeatsBelow (word_len c.args.self.now) c.args.bits.now (length c.args.bits.now)
repeats c =
    let size : 2 ^ c.exponent_of-n.result ≡ word_len c.args.self.now =
    c.exponent_of-n.ensures.power ∙ c.length_for-len.ensures.length ∙ ap word_len c.self.view_is in
    subst (λ (n : ℕ). RepeatsBelow n c.args.bits.now (length c.args.bits.now)) size (c.in_default.ensures.same.0 refl)

none : (c : Then-not-others_are_zero) → HasNoBlock c.args.self.now c.args.bits.now
none c =
    let s = shape c.self.inside.block_len c.self.inside.coded_len c.self.inside.order.items c.self.inside.positions in
    let n = c.length_for-len.result in
    let input : IsInput n s.block_len c.args.bits.now c.of_words-input.result =
    input_of_words n c.exponent_of-n.result s.block_len c.args.bits.now c.of_words-input.result c.unselect_words.new.d
    c.transform_words.new.word c.exponent_of-n.ensures.power c.in_default.ensures.word c.transform_words.ensures.first
    c.of_words-input.ensures in
    let u = c.of_words-input.result in
    let size : length u ≡ word_len s = row_long c.transform_words.new.word u n c.of_words-input.ensures
    ∙ c.length_for-len.ensures.length in
    subst (λ (x : CodeShape). HasNoBlock x c.args.bits.now) c.self.view_is
    (none_of_others s n c.args.bits.now c.of_words-input.result c.self.invariant.0 c.length_for-len.ensures.legal
    c.length_for-len.ensures.length (c.requires ∙ ap (λ (x : CodeShape). x.coded_len) (sym c.self.view_is)) input
    (λ others. iff_false c.others_are_zero.ensures c.if-not-others_are_zero.true
    ((others_of_tested s u c.self.inside.tested size c.self.invariant.2).1 others)))

pub returns-then-not-others_are_zero-clause-outcome : goal.returns-then-not-others_are_zero-clause-outcome
returns-then-not-others_are_zero-clause-outcome c = (repeats c, none c)

pub read-requires-clause-inside : goal.read-requires-clause-inside
read-requires-clause-inside c bit l =
    let s = shape c.self.inside.block_len c.self.inside.coded_len c.self.inside.order.items c.self.inside.positions in
    let within = carriers_within s c.self.inside.carriers c.self.invariant.0 c.self.invariant.1 bit l in
    let size : length c.of_words-input.result ≡ word_len s =
    row_long c.transform_words.new.word c.of_words-input.result c.length_for-len.result c.of_words-input.ensures
    ∙ c.length_for-len.ensures.length in
    omega (arith, within, size)

block_is : (c : After-read) → IsBlockOf c.args.self.now c.args.bits.now c.read.result
block_is c =
    let s = shape c.self.inside.block_len c.self.inside.coded_len c.self.inside.order.items c.self.inside.positions in
    let n = c.length_for-len.result in
    let u = c.of_words-input.result in
    let input : IsInput n s.block_len c.args.bits.now u =
    input_of_words n c.exponent_of-n.result s.block_len c.args.bits.now u c.unselect_words.new.d
    c.transform_words.new.word c.exponent_of-n.ensures.power c.in_default.ensures.word c.transform_words.ensures.first
    c.of_words-input.ensures in
    let q = c.self.invariant.0 in
    let size : length u ≡ word_len s = row_long c.transform_words.new.word u n c.of_words-input.ensures
    ∙ c.length_for-len.ensures.length in
    let is_read : IsRead (length u) s.order (bit_of s.positions) (bit_of u) c.read.result =
    subst (λ (x : ℕ). IsRead x s.order (bit_of s.positions) (bit_of u) c.read.result) (sym size)
    (read_by_carriers (word_len s) s.block_len s.coded_len s.order (bit_of s.positions) c.self.inside.carriers c.read.result
    (bit_of u) q.order_is q.positions_are c.self.invariant.1 c.read.ensures.bits) in
    subst (λ (x : CodeShape). IsBlockOf x c.args.bits.now c.read.result) c.self.view_is
    (block_is_read s n c.args.bits.now u c.read.result q c.length_for-len.ensures.legal
    c.length_for-len.ensures.length (c.requires ∙ ap (λ (x : CodeShape). x.coded_len) (sym c.self.view_is)) input
    ((others_of_tested s u c.self.inside.tested size c.self.invariant.2).0
    (c.others_are_zero.ensures.0 c.if-not-others_are_zero.false))
    (c.read.ensures.len ∙ sym q.order_is.long) is_read)

pub returns-clause-outcome : goal.returns-clause-outcome
returns-clause-outcome c = block_is c
