use Rattle.rate_match.specs.Pieces.{IsReordered}
use Rattle.rate_match.proofs.pieces.reorder.Given as goal

-- the pieces so far
abbrev pub invariant-loop-turn : goal.invariant-loop-turn
invariant-loop-turn l = IsReordered l.table l.width l.from l.to l.turn
