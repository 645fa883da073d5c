use Rattle.std.proofs.Common.{◌≡◌, not, drop}
use Rattle.std.specs.List.{list_all}
use Rattle.dci_fields.proofs.unpacking.is_zero_from.Given as goal

-- the bits that are left decide
abbrev pub invariant-loop-at : goal.invariant-loop-at
invariant-loop-at l = list_all not (drop l.place l.payload) ≡ list_all not (drop l.at l.payload)
