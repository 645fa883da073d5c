use Rattle.std.proofs.Common.{drop}
use Rattle.slot_grid.specs.Grid.{SameNumbers}
use Rattle.grid_file.specs.Reading.{IsPlacedTo}
use Rattle.grid_file.proofs.points.read_points.Given as goal

abbrev pub invariant-loop-symbol : goal.invariant-loop-symbol
invariant-loop-symbol l = record {
  placed : IsPlacedTo (drop l.start l.bytes) l.initial.grid.blocks l.symbol 0 l.grid;
  keeps : SameNumbers l.initial.grid l.grid;
}
