use Rattle.std.proofs.Common.{drop}
use Rattle.dci_fields.proofs.RowReading.{IsReading}
use Rattle.dci_fields.proofs.unpacking.read_rows.Given as goal

abbrev pub invariant-loop-row : goal.invariant-loop-row
invariant-loop-row l = IsReading l.rows l.format l.payload (drop l.row-index l.rows) l.place l.values
