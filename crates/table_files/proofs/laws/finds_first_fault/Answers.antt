use Rattle.table_files.proofs.FirstFaults as faults
use Rattle.table_files.proofs.laws.finds_first_fault.Goals as goal

pub returns : goal.returns
returns c = faults.finds_first_fault
