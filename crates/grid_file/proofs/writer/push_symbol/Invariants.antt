use Rattle.std.proofs.Common.{◌≡◌, ◌++◌, map}
use Rattle.std.specs.List.{range_with_len}
use Rattle.slot_grid.specs.Grid.{point_at}
use Rattle.grid_file.specs.Bytes.{point_byte}
use Rattle.grid_file.proofs.writer.push_symbol.Given as goal

-- the characters of the subcarriers so far follow the text
abbrev pub invariant-loop-subcarrier : goal.invariant-loop-subcarrier
invariant-loop-subcarrier l =
    l.text.items ≡ l.initial.text.items
    ++ map (λ c. point_byte (point_at l.initial.grid l.initial.symbol c)) (range_with_len 0 l.subcarrier)
