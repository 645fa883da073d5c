use Rattle.bits_core.proofs.Rows.{length-row, get-row}
use Rattle.std.proofs.Common.{arith, sym, ◌∙◌}
use Rattle.bits_core.proofs.row.BitRow.get.Goals as goal

pub bit-requires : goal.bit-requires
bit-requires g c = let h = rw (← c.self.view_is, length-row) at c.requires in omega arith

pub returns : goal.returns
returns g c =
    let h = rw (← c.self.view_is, length-row) at c.requires in
    rw (← c.self.view_is) (c.bit.ensures ∙ sym (get-row c.self.inside.words c.self.inside.len c.args.at h))
