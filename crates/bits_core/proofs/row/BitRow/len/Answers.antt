use Rattle.bits_core.proofs.Rows.{length-row}
use Rattle.bits_core.proofs.row.BitRow.len.Goals as goal

pub returns-clause-value : goal.returns-clause-value
returns-clause-value g c = rw (← c.self.view_is, length-row)

pub returns-clause-fits : goal.returns-clause-fits
returns-clause-fits g c = rw (← c.self.view_is, length-row) c.self.invariant
