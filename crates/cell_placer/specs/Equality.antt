-- `==` of what becomes of a grant holds exactly of equal values.
use Rattle.std.specs.Prelude.{◌≡◌, Decides}
use Rattle.std.proofs.Common.{rules}
use Rattle.std.proofs.lemmas.Grind.{common_steps}
use Rattle.dci_fields.specs.declared.fault.FieldFault.{FieldFault}
use Rattle.dci_fields.specs.declared.fault.FieldFault.TheVariants.{Unknown, TooLarge, AllOnes}
use Rattle.dci_fields.specs.contracts.fault.FieldFaultPartialEq.TheImpl as fault
use Rattle.cell_placer.specs.declared.refusal.Placed.{Placed}
use Rattle.cell_placer.specs.declared.refusal.Refusal.{Refusal}
use Rattle.cell_placer.specs.declared.refusal.Refusal.TheVariants.{UnknownHandset, UnknownSet, Unmonitored, Field, Overlap, Full}
use Rattle.cell_placer.specs.contracts.refusal.PlacedPartialEq.TheImpl as placed
use Rattle.cell_placer.specs.contracts.refusal.RefusalPartialEq.TheImpl as refusal

-- places of accepted grants
pub decides_placed : (a b : Placed) → Decides (placed.ghosts.eq a b) (a ≡ b)
decides_placed a b = search (rules, common_steps)

-- faults of field values
pub decides_fault : (a b : FieldFault) → Decides (fault.ghosts.eq a b) (a ≡ b)
decides_fault (Unknown a) b = search (rules, common_steps)
decides_fault (TooLarge a v) b = search (rules, common_steps)
decides_fault AllOnes b = search (rules, common_steps)

-- refusals
pub decides_refusal : (a b : Refusal) → Decides (refusal.ghosts.eq a b) (a ≡ b)
decides_refusal UnknownHandset b = search (rules, common_steps)
decides_refusal UnknownSet b = search (rules, common_steps)
decides_refusal Unmonitored b = search (rules, common_steps)
decides_refusal (Field f) (Field g) = let d = decides_fault f g in search (rules, common_steps)
decides_refusal (Field f) UnknownHandset = search (rules, common_steps)
decides_refusal (Field f) UnknownSet = search (rules, common_steps)
decides_refusal (Field f) Unmonitored = search (rules, common_steps)
decides_refusal (Field f) (Overlap e) = search (rules, common_steps)
decides_refusal (Field f) (Full r) = search (rules, common_steps)
decides_refusal (Overlap e) b = search (rules, common_steps)
decides_refusal (Full r) b = search (rules, common_steps)
