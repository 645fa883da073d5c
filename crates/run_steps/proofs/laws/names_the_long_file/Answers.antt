use Rattle.run_steps.proofs.RunPromises.{names_the_long_file}
use Rattle.run_steps.proofs.laws.names_the_long_file.Goals as goal

pub returns : goal.returns
returns c = names_the_long_file
