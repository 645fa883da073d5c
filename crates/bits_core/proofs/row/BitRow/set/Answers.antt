use Rattle.bits_core.proofs.Rows.{length-row, set-row}
use Rattle.std.proofs.Common.{arith}
use Rattle.bits_core.proofs.row.BitRow.set.Goals as goal

pub put-requires : goal.put-requires
put-requires g c = let h = rw (← c.self.view_is, length-row) at c.requires in omega arith

pub returns : goal.returns
returns g c =
    let h = rw (← c.self.view_is, length-row) at c.requires in
    rw (← c.self.view_is) (set-row _ _ _ _ _ c.put.ensures h)
