use Rattle.std.proofs.Common.{refl}
use Rattle.run_steps.specs.declared.statuses.Status.TheVariants.{TableRefused}
use Rattle.pdcch_app.proofs.Endings.{ends_exactly}
use Rattle.pdcch_app.proofs.laws.ends_as_table_refused.Goals as goal

pub returns : goal.returns
returns c = ends_exactly TableRefused refl
