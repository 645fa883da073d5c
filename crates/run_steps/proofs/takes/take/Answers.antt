use Rattle.run_steps.proofs.Taking.{took_bytes, took_none}
use Rattle.run_steps.proofs.takes.take.Goals as goal

pub returns-in-Ok-clause-step : goal.returns-in-Ok-clause-step
returns-in-Ok-clause-step g c = rw c.from_vec.ensures (took_bytes _ _ _ _ c.in-Ok.ensures.fetched)

pub returns-clause-step : goal.returns-clause-step
returns-clause-step g c = took_none _ _ _ _ (rw c.in-Err-NoMemory.field-0-is at c.in-Err-NoMemory.ensures.fetched)
