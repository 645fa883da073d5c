-- Laws of the points of bits on REGs.
use Rattle.std.specs.Prelude.{◌≡◌, ◌↔◌, ℕ, ◌+◌, ◌*◌, ◌<◌, Bool, List, Some, length, slice_get}
use Rattle.bits_core.specs.Bits.{bit_of}
use Rattle.slot_grid.specs.Grid.{GridValue}
use Rattle.slot_grid.specs.Image.{overwritten}
use Rattle.coreset_map.specs.declared.places.Reg.{Reg}
use Rattle.coreset_map.specs.declared.places.Spot.{Spot}
use Rattle.coreset_map.specs.DataPlaces.{data_places}
use Rattle.coreset_map.specs.RegOrder.{AreInside, AreRegs, AreWithin, reg_at}
use Rattle.dmrs_qpsk.specs.Held.{Holds}
use Rattle.dmrs_qpsk.specs.Modulation.{point_of}
use Rattle.dmrs_qpsk.specs.PointsOnGrid.{image_of}
use Rattle.dmrs_qpsk.specs.ReferencePoints.{reference}

-- a grid on which bits were put holds these bits and no others
abbrev pub HoldsWhatWasPut : Type 0
HoldsWhatWasPut =
    (grid : GridValue) (first id : ℕ) (regs : List Reg) (bits other : List Bool) → AreRegs regs → AreInside first grid.blocks regs →
    length bits ≡ 18 * length regs →
    Holds (overwritten (image_of grid.slot first id regs bits) grid) first id regs other ↔ (other ≡ bits)

-- the data place of number i of the REGs has the point of bits 2i and 2i + 1
abbrev pub DataInOrder : Type 0
DataInOrder =
    (slot first id symbols blocks : ℕ) (regs : List Reg) (bits : List Bool) (i : ℕ) (spot : Spot) → AreRegs regs
    → AreWithin symbols blocks regs
    → slice_get (data_places symbols blocks regs) i ≡ Some spot
    → image_of slot first id regs bits (first + spot.symbol) spot.subcarrier
    ≡ Some (point_of (bit_of bits (2 * i)) (bit_of bits (2 * i + 1)))

-- subcarrier 4k + 1 of each REG has reference point k of its block
abbrev pub ReferencesInOrder : Type 0
ReferencesInOrder =
    (slot first id : ℕ) (regs : List Reg) (bits : List Bool) (j k : ℕ) → AreRegs regs → j < length regs → k < 3
    → image_of slot first id regs bits (first + (reg_at regs j).symbol) (12 * (reg_at regs j).block + (4 * k + 1))
    ≡ Some (reference slot (first + (reg_at regs j).symbol) id (reg_at regs j).block k)
