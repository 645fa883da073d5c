-- What is put is taken.
use Rattle.std.proofs.Common.{List, Bool, sym, subst}
use Rattle.slot_grid.specs.Image.{overwritten}
use Rattle.dmrs_qpsk.specs.Held.{Holds}
use Rattle.dmrs_qpsk.specs.PointLaws.{HoldsWhatWasPut}
use Rattle.dmrs_qpsk.specs.PointsOnGrid.{image_of}
use Rattle.dmrs_qpsk.proofs.Takes.{held_after, one_held}

-- the law
pub holds_what_was_put : HoldsWhatWasPut
holds_what_was_put grid first id regs bits other order inside size =
    let after = overwritten (image_of grid.slot first id regs bits) grid in
    let held : Holds after first id regs bits = held_after grid first id regs bits inside size in
    let P : List Bool → Type 0 = λ b. Holds after first id regs b in (
      (λ h. one_held after first id regs other bits order h held),
      (λ e. subst P (sym e) held),
    )
