use Rattle.std.proofs.Common.{◌+◌, ◌<◌, ◌≤◌, ◌^◌, ◌≡◌, ap, arith, bit_xor, length, rules, ◌∙◌}
use Rattle.std.proofs.lemmas.Nat.{xor_lt}
use Rattle.crc_mask.proofs.Copies.{copied_three}
use Rattle.crc_mask.proofs.Masks.{length-masked}
use Rattle.crc_mask.proofs.Numbers.{attached}
use Rattle.crc_mask.proofs.mask.attach.Goals as goal

pub append_number-requires : goal.append_number-requires
append_number-requires c =
    let same = c.from.ensures in
    let value : bit_xor c.parity_of.result c.from.result
    < 2 ^ 24 = xor_lt 24 c.parity_of.result c.from.result c.parity_of.ensures.below (omega arith) in
    let begins : c.of_words-block.result ≡ c.args.payload.now =
    c.of_words-block.ensures
    ∙ copied_three c.word.result c.word-2.result c.args.payload.now c.len.result c.len.ensures.value (omega arith)
    (record { each = c.word.ensures }) (record { each = c.word-2.ensures })
    in
    let room : length c.of_words-block.result + 24 ≤ 192 = omega (arith, ap length begins) in
    search rules

pub returns-clause-block : goal.returns-clause-block
returns-clause-block c =
    c.append_number.ensures
    ∙ attached c.args.payload.now c.of_words-block.result c.parity_of.result c.args.rnti c.from.result
    (c.of_words-block.ensures
    ∙ copied_three c.word.result c.word-2.result c.args.payload.now c.len.result c.len.ensures.value (omega arith)
    (record { each = c.word.ensures }) (record { each = c.word-2.ensures }))
    c.parity_of.ensures.bits c.from.ensures (omega arith)

pub returns-clause-length : goal.returns-clause-length
returns-clause-length c = ap length (returns-clause-block c) ∙ length-masked c.args.payload.now c.args.rnti
