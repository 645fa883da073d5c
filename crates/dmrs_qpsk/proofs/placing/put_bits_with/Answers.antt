use Rattle.std.proofs.Common.{List, length, ◌∙◌, subst}
use Rattle.slot_grid.proofs.Images.{overwritten_is_this}
use Rattle.coreset_map.specs.declared.places.Reg.{Reg}
use Rattle.dmrs_qpsk.specs.PointsOnGrid.{image_of}
use Rattle.dmrs_qpsk.specs.Placed.{AreRegsPut}
use Rattle.dmrs_qpsk.proofs.RegNumbers.{regs_done}
use Rattle.dmrs_qpsk.proofs.placing.put_bits_with.Goals as goal

pub returns-clause-grid : goal.returns-clause-grid
returns-clause-grid c =
    let a = c.args in
    let old = a.grid.now in
    let new = c.put_bits_core.new.grid in
    let put = subst (λ (regs : List Reg). AreRegsPut a.first a.id regs a.bits.now (length regs) old new)
    c.as_slice.ensures.value c.put_bits_core.ensures.places in
    let same = put.numbers in
    overwritten_is_this (image_of old.slot a.first a.id a.regs.now.items a.bits.now) old new same.mu same.frame same.slot
    same.blocks
    (same.size ∙ c.put_bits_core.ensures.size) (λ s k l m. regs_done a.first a.id a.regs.now.items a.bits.now old new put s k)
