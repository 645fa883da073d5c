use Rattle.bits_core.proofs.Rows.{length-row, push-row}
use Rattle.std.proofs.Common.{arith}
use Rattle.bits_core.proofs.row.BitRow.push.Goals as goal

pub put-requires : goal.put-requires
put-requires g c = let h = rw (← c.self.view_is, length-row) at c.requires.room in omega arith

pub invariant_of-self : goal.invariant_of-self
invariant_of-self g c = let h = rw (← c.self.view_is, length-row) at c.requires.room in omega arith

pub returns : goal.returns
returns g c = rw (← c.self.view_is) (push-row _ _ _ _ c.put.ensures)
