use Rattle.plain_text.specs.Pieces.{piece_text}
use Rattle.plain_text.proofs.Appending.{begun_at, appends_begun}
use Rattle.plain_text.proofs.pieces.push_pieces.Goals as goal

pub returns-in_err-push_piece : goal.returns-in_err-push_piece
returns-in_err-push_piece c =
    appends_begun c.from_residual.result c.from_residual.ensures.0
    (begun_at piece_text c.args.pieces.now c.loop-piece.piece-index _ c.in_err-push_piece.ensures.prefix
    c.loop-piece.invariant c.loop-piece-test.true)
