-- What is known of the desk of a slot of a legal cell.
use Rattle.std.specs.Prelude.{◌≡◌, ℕ, ◌<◌, Ok, length}
use Rattle.rrc_settings.specs.declared.settings.RawCell.{RawCell}
use Rattle.rrc_settings.specs.Legal.{IsLegal}
use Rattle.slot_grid.specs.Image.{blank_grid}
use Rattle.cell_placer.specs.Ledger.{member_at}
use Rattle.cell_placer.specs.Made.{IsMade}
use Rattle.cell_placer.specs.Opened.{opened}
use Rattle.cell_placer.specs.Placing.{DeskValue, IsDesk}

-- it keeps what each desk keeps, has the handsets of the cell, each with the watches of its plan in the slot, and a blank grid
pub record IsOpened (cell : RawCell) (frame slot : ℕ) (desk : DeskValue) : Type 0 where
  pub keeps : IsDesk desk
  pub count : length desk.ledger.members ≡ length cell.handsets
  pub each : (handset : ℕ) → handset < length cell.handsets
      → IsMade cell handset frame slot (member_at desk.ledger.members handset)
  pub blank : desk.grid ≡ blank_grid cell.mu frame slot cell.blocks

-- so it is with each that there is
abbrev pub OpensADesk : Type 0
OpensADesk =
    (cell : RawCell) (frame slot room : ℕ) (desk : DeskValue) → IsLegal cell → opened cell frame slot room ≡ Ok desk
    → IsOpened cell frame slot desk
