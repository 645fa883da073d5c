-- What holds of every control resource set of a legal cell.
use Rattle.std.specs.Prelude.{◌≡◌, ℕ, ◌<◌, length, Contains}
use Rattle.rrc_settings.specs.declared.settings.RawCell.{RawCell}
use Rattle.rrc_settings.specs.Legal.{IsLegal}
use Rattle.coreset_map.specs.declared.places.Reg.{Reg}
use Rattle.coreset_map.specs.ControlResources.{cce_count, cce_regs}
use Rattle.rrc_settings.specs.HandsetsOfCell.{handset_at}
use Rattle.coreset_map.specs.ResourcesOfCell.{resources_of}

-- different CCEs of a control resource set share no REG
abbrev pub CcesAreApart : Type 0
CcesAreApart =
    (cell : RawCell) (handset coreset : ℕ) → IsLegal cell → handset < length cell.handsets
    → coreset < length (handset_at cell handset).coresets.items
    → (j k : ℕ) (reg : Reg) → j < cce_count (resources_of cell handset coreset)
    → k < cce_count (resources_of cell handset coreset)
    → Contains (cce_regs (resources_of cell handset coreset) j) reg
    → Contains (cce_regs (resources_of cell handset coreset) k) reg
    → j ≡ k
