use Rattle.std.proofs.Common.{refl}
use Rattle.run_steps.specs.declared.statuses.Status.TheVariants.{ReadFault}
use Rattle.pdcch_app.proofs.Endings.{ends_exactly}
use Rattle.pdcch_app.proofs.laws.ends_as_read_fault_of_a_file.Goals as goal

pub returns : goal.returns
returns c = ends_exactly ReadFault refl
