use Rattle.std.proofs.Common.{◌≡◌, ◌++◌, ◌-◌, false, length, replicate}
use Rattle.dci_fields.proofs.packing.pad.Given as goal

abbrev pub invariant-loop-at : goal.invariant-loop-at
invariant-loop-at l = l.payload ≡ l.initial.payload ++ replicate (l._at - length l.initial.payload) false
