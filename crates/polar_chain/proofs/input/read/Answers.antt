use Rattle.std.proofs.Common.{List, Bool, ap, arith, ◌∙◌}
use Rattle.bits_core.specs.Bits.{bit_of}
use Rattle.bits_core.proofs.RowWords.{bit_of-row}
use Rattle.polar_chain.proofs.KnownWords.{row_long}
use Rattle.polar_chain.proofs.input.read.Goals as goal

pub returns-clause-len : goal.returns-clause-len
returns-clause-len c = row_long c.loop-bit.words c.of_words.result c.args.len c.of_words.ensures

pub returns-clause-bits : goal.returns-clause-bits
returns-clause-bits c bit l =
    ap (λ (bits : List Bool). bit_of bits bit) c.of_words.ensures
    ∙ bit_of-row c.loop-bit.words c.args.len bit l
    ∙ c.loop-bit.invariant.read_so_far bit (omega arith)
