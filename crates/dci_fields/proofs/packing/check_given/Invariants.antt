use Rattle.dci_fields.specs.GivenValues.{AreKnownBelow}
use Rattle.dci_fields.proofs.packing.check_given.Given as goal

abbrev pub invariant-loop-at : goal.invariant-loop-at
invariant-loop-at l = AreKnownBelow l.rows l.format l.given l.at
