use Rattle.dci_fields.proofs.FirstFieldFaults.{finds_field_fault}
use Rattle.dci_fields.proofs.laws.finds_field_fault.Goals as goal

pub returns : goal.returns
returns c = finds_field_fault
