use Rattle.std.proofs.Common.{◌≡◌, ◌++◌, take}
use Rattle.plain_text.specs.Pieces.{pieces_text}
use Rattle.plain_text.proofs.pieces.push_pieces.Given as goal

-- the pieces so far follow the text
abbrev pub invariant-loop-piece : goal.invariant-loop-piece
invariant-loop-piece l = l.out.items ≡ l.initial.out.items ++ pieces_text (take l.piece-index l.initial.pieces)
