use Rattle.rate_match.proofs.WrittenWords.{reordered_more}
use Rattle.rate_match.proofs.pieces.reorder.Goals as goal

pub loop-turn-preserved : goal.loop-turn-preserved
loop-turn-preserved c =
    reordered_more c.args.table.now c.args.width c.args.from.now c.loop-turn.to c.put_piece.new.words c.loop-turn.turn
    c.piece_at-piece.result c.piece_at-piece.ensures.bits c.put_piece.ensures.put c.loop-turn.invariant
