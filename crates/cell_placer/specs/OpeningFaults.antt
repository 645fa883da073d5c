-- What a fault of opening says of the slot.
use Rattle.std.specs.Prelude.{◌≡◌, Result, Err, IsOk}
use Rattle.cell_placer.specs.declared.refusal.DeskFault.{DeskFault}
use Rattle.cell_placer.specs.declared.refusal.DeskFault.TheVariants.{CommonOver, NoMemory}
use Rattle.cell_placer.specs.Opened.{SlotOver, slot_over}

-- either the common sets of this handset exceed a limit, or there was no memory for a desk that there is
abbrev pub Tells : {A : Type 0} → DeskFault → Result A SlotOver → Type 0
Tells (CommonOver handset candidates cces) outcome = outcome ≡ Err (slot_over handset candidates cces)
Tells NoMemory outcome = IsOk outcome
