use Rattle.run_steps.proofs.RunPromises.{refuses_silently}
use Rattle.run_steps.proofs.laws.refuses_silently.Goals as goal

pub returns : goal.returns
returns c = refuses_silently
