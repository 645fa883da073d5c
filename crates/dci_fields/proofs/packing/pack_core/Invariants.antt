use Rattle.dci_fields.proofs.RowPacking.{IsPacking}
use Rattle.dci_fields.proofs.packing.pack_core.Given as goal

abbrev pub invariant-loop-row : goal.invariant-loop-row
invariant-loop-row l = IsPacking l.rows l.format l.given l.row-index l.payload
