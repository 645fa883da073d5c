use Rattle.std.proofs.Common.{◌≡◌, drop}
use Rattle.dci_fields.specs.GivenValues.{open_width}
use Rattle.dci_fields.proofs.packing.width_for.Given as goal

-- the rows that are left decide
abbrev pub invariant-loop-row : goal.invariant-loop-row
invariant-loop-row l = open_width l.rows l.format l.name ≡ open_width (drop l.row-index l.rows) l.format l.name
