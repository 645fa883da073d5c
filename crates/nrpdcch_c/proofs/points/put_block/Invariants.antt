use Rattle.std.proofs.Common.{◌≡◌, ◌*◌}
use Rattle.nrpdcch_c.specs.FilledGrids.{filled_to}
use Rattle.nrpdcch_c.proofs.points.put_block.Given as goal

-- the points so far are written, and the other places are empty
abbrev pub invariant-loop-at : goal.invariant-loop-at
invariant-loop-at l = record {
  width : l.width ≡ 12 * l.initial.grid.blocks;
  grid : l.grid ≡ filled_to l.at l.bytes l.initial.grid;
}
