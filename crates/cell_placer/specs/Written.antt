-- The grid that grants leave, and that each accepted one is heard on it.
use Rattle.std.specs.Prelude.{◌≡◌, ℕ, List, [], ◌∷◌, Some, Result, Ok, Err, position, bytes_eq, slice_get, unwrap_or}
use Rattle.slot_grid.specs.Grid.{GridValue}
use Rattle.slot_grid.specs.Image.{Image, overwritten, blank_grid}
use Rattle.table_files.specs.declared.tables.Tables.{Tables}
use Rattle.rrc_settings.specs.declared.settings.RawCell.{RawCell}
use Rattle.monitor_plan.specs.declared.watch.Watch.{Watch}
use Rattle.monitor_plan.specs.Watch.{watch_at}
use Rattle.dci_codec.specs.Hearing.{AreTables, Spells, heard_of}
use Rattle.dci_codec.specs.Spelled.{spelling_by}
use Rattle.dci_codec.specs.TheSpelling.{heard_at}
use Rattle.grant_file.specs.declared.grants.Grant.{Grant}
use Rattle.cell_placer.specs.declared.member.Member.{Member}
use Rattle.cell_placer.specs.declared.member.Accepted.{Accepted}
use Rattle.cell_placer.specs.declared.refusal.Placed.{Placed}
use Rattle.cell_placer.specs.declared.refusal.Refusal.{Refusal}
use Rattle.cell_placer.specs.Ledger.{LedgerValue, member_at, watch_of}
use Rattle.cell_placer.specs.Fate.{decided}
use Rattle.cell_placer.specs.Placing.{DeskValue, IsDesk, grant_image, next, fates, desk_after}
use Rattle.cell_placer.specs.Opened.{opened}

-- the image of a grant by what was decided, before those of later grants
abbrev pub image_before : Tables → ℕ → LedgerValue → Grant → Result Accepted Refusal → List Image → List Image
image_before tables slot ledger grant (Ok a) later = grant_image tables slot (watch_of ledger.members a) grant ∷ later
image_before tables slot ledger grant (Err refusal) later = later

-- the images of the accepted ones of grants that come one after the other
unfoldable pub accepted_images : Tables → ℕ → LedgerValue → List Grant → List Image
accepted_images tables slot ledger [] = []
accepted_images tables slot ledger (grant ∷ grants) =
    image_before tables slot ledger grant (decided ledger grant) (accepted_images tables slot (next ledger grant) grants)

-- a grid overwritten with images in order
unfoldable pub all_overwritten : List Image → GridValue → GridValue
all_overwritten [] grid = grid
all_overwritten (image ∷ images) grid = all_overwritten images (overwritten image grid)

-- the ledger after all grants
unfoldable pub ledger_after : LedgerValue → List Grant → LedgerValue
ledger_after ledger [] = ledger
ledger_after ledger (grant ∷ grants) = ledger_after (next ledger grant) grants

-- the grid after all grants is the first one overwritten with the images of the accepted ones, and the ledger is that after them,
-- whatever the tables
pub record WritesTheAccepted : Type 0 where
  pub grid : (tables : Tables) (desk : DeskValue) (grants : List Grant)
      → (desk_after tables desk grants).grid
      ≡ all_overwritten (accepted_images tables desk.grid.slot desk.ledger grants) desk.grid
  pub ledger : (tables : Tables) (desk : DeskValue) (grants : List Grant)
      → (desk_after tables desk grants).ledger ≡ ledger_after desk.ledger grants
  pub blank : (cell : RawCell) (frame slot room : ℕ) (desk : DeskValue) → opened cell frame slot room ≡ Ok desk
      → desk.grid ≡ blank_grid cell.mu frame slot cell.blocks

-- the watches of the handset that a grant names
abbrev pub watches_for : List Member → Grant → List Watch
watches_for members grant =
    (member_at members (unwrap_or (position (λ (m : Member). bytes_eq m.name grant.handset) members) 0)).plan

-- a grid spells a grant at the watch of a number, as it was given, and it is heard there
abbrev pub IsHeardAs : Tables → GridValue → Watch → Grant → ℕ → Type 0
IsHeardAs tables grid watch grant number =
    Spells tables grid watch (spelling_by watch grant.format grant.given)
    × (heard_at tables grid watch number ≡ Some (heard_of watch number (spelling_by watch grant.format grant.given)))

-- so it is with each accepted one on the grid that all grants leave
abbrev pub HearsEachAccepted : Type 0
HearsEachAccepted =
    (tables : Tables) (desk : DeskValue) (grants : List Grant) (i : ℕ) (grant : Grant) (placed : Placed) → AreTables tables
    → IsDesk desk
    → slice_get grants i ≡ Some grant → slice_get (fates desk.ledger grants) i ≡ Some (Ok placed)
    → IsHeardAs tables (desk_after tables desk grants).grid (watch_at (watches_for desk.ledger.members grant) placed.watch)
    grant placed.watch
