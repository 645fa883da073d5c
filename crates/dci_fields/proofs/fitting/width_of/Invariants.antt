use Rattle.std.proofs.Common.{◌≡◌, ◌+◌, drop}
use Rattle.dci_fields.specs.FieldLists.{width_of}
use Rattle.dci_fields.proofs.fitting.width_of.Given as goal

-- the width so far and that of the rows that are left
abbrev pub invariant-loop-row : goal.invariant-loop-row
invariant-loop-row l = l.width + width_of (drop l.row-index l.list) ≡ width_of l.list
