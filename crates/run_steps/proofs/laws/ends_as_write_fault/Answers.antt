use Rattle.run_steps.proofs.RunPromises.{ends_as_write_fault}
use Rattle.run_steps.proofs.laws.ends_as_write_fault.Goals as goal

pub returns : goal.returns
returns c = ends_as_write_fault
