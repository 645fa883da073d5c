use Rattle.std.proofs.Common.{refl}
use Rattle.run_steps.proofs.delivery.finish.Goals as goal

pub returns-in-Err-OutOfMemory : goal.returns-in-Err-OutOfMemory
returns-in-Err-OutOfMemory g c =
    rw (c.in-Err-OutOfMemory.is, c.in-Err-OutOfMemory.field-0-is)
    (record { silent = λ e. refl; honest = λ e. cc; delivered = c.deliver.ensures })
