use Rattle.std.proofs.Common.{drop}
use Rattle.slot_grid.specs.Grid.{SameNumbers}
use Rattle.grid_file.specs.Reading.{IsPlacedTo}
use Rattle.grid_file.proofs.points.read_line.Given as goal

abbrev pub invariant-loop-subcarrier : goal.invariant-loop-subcarrier
invariant-loop-subcarrier l = record {
  placed : IsPlacedTo (drop l.start l.bytes) l.initial.grid.blocks l.symbol l.subcarrier l.grid;
  keeps : SameNumbers l.initial.grid l.grid;
}
