use Rattle.std.proofs.Common.{◌≡◌, drop}
use Rattle.dci_fields.specs.FittedRows.{fdra_of}
use Rattle.dci_fields.proofs.fitting.fdra_of.Given as goal

-- the rows that are left decide
abbrev pub invariant-loop-row : goal.invariant-loop-row
invariant-loop-row l = fdra_of l.list ≡ fdra_of (drop l.row-index l.list)
