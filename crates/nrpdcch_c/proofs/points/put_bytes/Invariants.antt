use Rattle.std.proofs.Common.{◌≡◌, ◌*◌, ◌+◌, ◌++◌, drop, map, take}
use Rattle.nrpdcch_c.specs.Points.{byte_of}
use Rattle.nrpdcch_c.proofs.points.put_bytes.Given as goal

-- the points of the blocks so far are written, and behind them is what was there
abbrev pub invariant-loop-index : goal.invariant-loop-index
invariant-loop-index l = record {
  blocks : l.blocks ≡ l.grid.blocks;
  bytes : l.bytes ≡ map byte_of (take (12 * l.index) l.grid.points) ++ drop (12 * l.index) l.fn.bytes;
}

-- the points so far are written, and behind them is what was there
abbrev pub invariant-loop-subcarrier : goal.invariant-loop-subcarrier
invariant-loop-subcarrier l = record {
  blocks : l.blocks ≡ l.grid.blocks;
  bytes : l.bytes ≡ map byte_of (take (12 * l.index + l.subcarrier) l.grid.points) ++ drop (12 * l.index + l.subcarrier)
      l.fn.bytes;
}
