use Rattle.std.proofs.Common.{◌<◌, ◌/◌, arith}
use Rattle.bits_core.proofs.RowWords.{word_inside, word_at_end, word_past}
use Rattle.bits_core.proofs.row.BitRow.word.Goals as goal

pub returns-then-at-whole : goal.returns-then-at-whole
returns-then-at-whole g c =
    rw (← c.self.view_is) (word_inside c.self.inside.words c.self.inside.len c.args.at c.if-at-whole.true)

pub returns-then-at-whole-2 : goal.returns-then-at-whole-2
returns-then-at-whole-2 g c =
    rw (← c.self.view_is, c.low_bits.ensures)
    (word_at_end c.self.inside.words c.self.inside.len c.args.at c.if-at-whole-2.true)

pub returns-else-at-whole-2 : goal.returns-else-at-whole-2
returns-else-at-whole-2 g c =
    let behind : c.self.inside.len / 64 < c.args.at = omega arith in
    rw (← c.self.view_is) (word_past c.self.inside.words c.self.inside.len c.args.at behind)
