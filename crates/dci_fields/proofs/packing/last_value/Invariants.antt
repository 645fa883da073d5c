use Rattle.std.proofs.Common.{◌≡◌, Some, drop, unwrap_or}
use Rattle.std.specs.List.{last_or}
use Rattle.dci_fields.specs.GivenValues.{last_value, values_for}
use Rattle.dci_fields.proofs.packing.last_value.Given as goal

-- the entries that are left decide, and the value so far where none of them does
abbrev pub invariant-loop-entry : goal.invariant-loop-entry
invariant-loop-entry l =
    last_value l.name l.given ≡ unwrap_or (last_or (Some l.value) (values_for l.name (drop l.entry-index l.given))) 0
