use Rattle.dci_fields.specs.GivenValues.{values_for}
use Rattle.dci_fields.proofs.GivenLists.{last_or_zero}
use Rattle.dci_fields.proofs.packing.last_value.Goals as goal

pub loop-entry-init : goal.loop-entry-init
loop-entry-init c = last_or_zero (values_for c.args.name c.args.given.now)
