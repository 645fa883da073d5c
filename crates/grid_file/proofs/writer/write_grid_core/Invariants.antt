use Rattle.std.proofs.Common.{◌≡◌, ◌++◌}
use Rattle.std.specs.List.{range_with_len, flat_map}
use Rattle.grid_file.specs.GridText.{grid_head, symbol_line}
use Rattle.grid_file.proofs.writer.write_grid_core.Given as goal

-- the lines of the symbols so far follow the head
abbrev pub invariant-loop-symbol : goal.invariant-loop-symbol
invariant-loop-symbol l =
    l.text.items ≡ grid_head l.initial.grid.mu l.initial.grid.frame l.initial.grid.slot l.initial.grid.blocks
    ++ flat_map (symbol_line l.initial.grid) (range_with_len 0 l.symbol)
