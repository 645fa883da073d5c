use Rattle.std.proofs.Common.{refl}
use Rattle.run_steps.specs.declared.statuses.Status.TheVariants.{NoSuch}
use Rattle.pdcch_app.proofs.Endings.{ends_exactly}
use Rattle.pdcch_app.proofs.laws.ends_as_no_such.Goals as goal

pub returns : goal.returns
returns c = ends_exactly NoSuch refl
