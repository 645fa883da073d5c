use Rattle.std.proofs.Common.{◌≡◌, take, map}
use Rattle.dci_fields.specs.FittedRows.{cut_row}
use Rattle.dci_fields.proofs.fitting.fitted.Given as goal

abbrev pub invariant-loop-row : goal.invariant-loop-row
invariant-loop-row l = l.rows.items ≡ map (cut_row l.excess) (take l.row-index l.list)
