use Rattle.std.proofs.Common.{arith}
use Rattle.std.proofs.lemmas.Nat.{row_fits}
use Rattle.rate_match.proofs.WrittenWords.{piece_put, width_some}
use Rattle.rate_match.proofs.pieces.put_piece.Goals as goal

pub returns-clause-put : goal.returns-clause-put
returns-clause-put c =
    let width = c.requires.width in
    let fits = row_fits c.args.index c.args.width 32 c.args.width c.requires.below (omega arith) in
    let some = width_some width.count c.args.width width.whole in
    piece_put c.args.words.now c.args.index c.args.width c.args.piece width (omega arith) c.requires.short c.requires.free
