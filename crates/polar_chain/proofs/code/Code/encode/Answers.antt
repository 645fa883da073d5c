use Rattle.std.proofs.Common.{◌≡◌, ◌<◌, ℕ, List, Bool, ap, arith, subst, sym, ◌∙◌, length}
use Rattle.bits_core.specs.Bits.{bit_of}
use Rattle.bits_core.specs.Row.{row_bits, word_bit}
use Rattle.bits_core.proofs.RowWords.{bit_of-row}
use Rattle.polar_sets.specs.InputOrder.{in_input_order}
use Rattle.polar_chain.specs.CodeOfBlock.{laid}
use Rattle.polar_chain.specs.CodeShape.{CodeShape, coded, shape, word_len}
use Rattle.polar_chain.proofs.BitCarriers.{carriers_apart, carriers_inside, laid_by_carriers}
use Rattle.polar_chain.proofs.CodeSteps.{coded_of_words}
use Rattle.polar_chain.proofs.Codes.{length-code}
use Rattle.polar_chain.proofs.code.Code.encode.Goals as goal
use Rattle.polar_chain.proofs.code.Code.encode.Goals.{After-select_words}

pub lay-bits-requires-clause-inside : goal.lay-bits-requires-clause-inside
lay-bits-requires-clause-inside c bit l =
    let s = shape c.self.inside.block_len c.self.inside.coded_len c.self.inside.order.items c.self.inside.positions in
    carriers_inside s c.self.inside.carriers c.self.invariant.0 c.self.invariant.1 bit
    (let long = c.requires ∙ ap (λ (x : CodeShape). x.block_len) (sym c.self.view_is) in omega arith)

pub lay-bits-requires-clause-apart : goal.lay-bits-requires-clause-apart
lay-bits-requires-clause-apart c bit other less l =
    let s = shape c.self.inside.block_len c.self.inside.coded_len c.self.inside.order.items c.self.inside.positions in
    let q = c.self.invariant.0 in
    carriers_apart (word_len s) s.block_len s.coded_len s.order (bit_of s.positions) c.self.inside.carriers bit other
    q.order_is q.positions_are c.self.invariant.1 less
    (let long = c.requires ∙ ap (λ (x : CodeShape). x.block_len) (sym c.self.view_is) in omega arith)

out_is : (c : After-select_words) → c.select_words.new.out ≡ coded c.args.self.now c.args.c.now
out_is c =
    let s = shape c.self.inside.block_len c.self.inside.coded_len c.self.inside.order.items c.self.inside.positions in
    let n = c.length_for-len.result in
    let block = c.args.c.now in
    let words = c.lay-bits.result in
    let q = c.self.invariant.0 in
    let long : length block ≡ s.block_len = c.requires ∙ ap (λ (x : CodeShape). x.block_len) (sym c.self.view_is) in
    let laid_is : (i : ℕ) → i < word_len s → word_bit words i ≡ laid (bit_of s.positions) (in_input_order s.order block) i =
    laid_by_carriers (word_len s) s.block_len s.coded_len s.order (bit_of s.positions) c.self.inside.carriers block
    (word_bit words) q.order_is q.positions_are c.self.invariant.1
    (λ bit l. c.lay-bits.ensures.there bit (omega arith))
    (λ i none. c.lay-bits.ensures.others i (λ bit l. none bit (omega arith))) in
    let size = c.length_for-len.ensures.length in
    let bits : (i : ℕ) → i < n → bit_of (row_bits words n) i ≡ laid (bit_of s.positions) (in_input_order s.order block) i =
    λ i l. bit_of-row words n i l ∙ laid_is i (subst (λ (x : ℕ). i < x) size l) in
    subst (λ (x : CodeShape). c.select_words.new.out ≡ coded x c.args.c.now) c.self.view_is
    (coded_of_words s n c.exponent_of-n.result c.args.c.now c.lay-bits.result c.transform_words.new.word
    c.select_words.new.out c.length_for-len.ensures.legal c.length_for-len.ensures.length c.exponent_of-n.ensures.power bits
    c.transform_words.ensures.first c.select_words.ensures)

pub returns-clause-code : goal.returns-clause-code
returns-clause-code c = out_is c

pub returns-clause-len : goal.returns-clause-len
returns-clause-len c = ap (λ (out : List Bool). length out) (out_is c) ∙ length-code c.args.self.now c.args.c.now
