use Rattle.std.proofs.Common.{◌∙◌, arith}
use Rattle.rate_match.proofs.Ordered.{selected_words, width_of}
use Rattle.rate_match.proofs.Subblocks.{subblock_at_most}
use Rattle.rate_match.proofs.packed.select_core.Goals as goal

pub reorder-requires-clause-width : goal.reorder-requires-clause-width
reorder-requires-clause-width c = width_of c.args.n c.requires.size

pub reorder-requires-clause-table : goal.reorder-requires-clause-table
reorder-requires-clause-table c turn l = let most = subblock_at_most turn in omega arith

pub returns : goal.returns
returns c =
    c.of_words.ensures
    ∙ selected_words c.args.n c.args.k c.args.e c.args.word.now c.reorder.new.to c.keep_sent.new.coded c.requires.size
    c.reorder.ensures.reordered c.keep_sent.ensures.sent
