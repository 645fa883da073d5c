use Rattle.std.proofs.Common.{◌≡◌, ◌*◌}
use Rattle.nrpdcch_c.specs.FilledGrids.{filled_to}
use Rattle.nrpdcch_c.proofs.points.put_points.Given as goal

-- the points of the blocks so far are written, and the other places are empty
abbrev pub invariant-loop-block : goal.invariant-loop-block
invariant-loop-block l = l.grid ≡ filled_to (12 * l.block) l.bytes l.initial.grid
