-- What grants leave that come one after the other.
use Rattle.std.proofs.Common.{◌≡◌, ℕ, List, [], ◌∷◌, Result, Ok, Err, refl, ap, sym, ◌∙◌}
use Rattle.slot_grid.specs.Grid.{GridValue}
use Rattle.slot_grid.specs.Image.{overwritten, blank_grid}
use Rattle.table_files.specs.declared.tables.Tables.{Tables}
use Rattle.rrc_settings.specs.declared.settings.RawCell.{RawCell}
use Rattle.grant_file.specs.declared.grants.Grant.{Grant}
use Rattle.cell_placer.specs.declared.member.Member.{Member}
use Rattle.cell_placer.specs.declared.member.Accepted.{Accepted}
use Rattle.cell_placer.specs.declared.refusal.Refusal.{Refusal}
use Rattle.cell_placer.specs.Ledger.{LedgerValue}
use Rattle.cell_placer.specs.Fate.{decided}
use Rattle.cell_placer.specs.Placing.{DeskValue, next, step, written, desk_after}
use Rattle.cell_placer.specs.Opened.{SlotOver, new_desk, opened}
use Rattle.cell_placer.specs.Written.{image_before, accepted_images, all_overwritten, ledger_after}

-- one grant
one_written : (tables : Tables) (ledger after : LedgerValue) (grant : Grant) (grants : List Grant) (grid : GridValue)
    (r : Result Accepted Refusal)
    → all_overwritten (accepted_images tables (written tables ledger grant grid r).slot after grants)
    (written tables ledger grant grid r)
    ≡ all_overwritten (image_before tables grid.slot ledger grant r (accepted_images tables grid.slot after grants)) grid
unfolding all_overwritten overwritten
one_written tables ledger after grant grants grid (Ok a) = refl
one_written tables ledger after grant grants grid (Err refusal) = refl

-- all grants
pub grid_after : (tables : Tables) (desk : DeskValue) (grants : List Grant)
    → (desk_after tables desk grants).grid ≡ all_overwritten (accepted_images tables desk.grid.slot desk.ledger grants) desk.grid
unfolding desk_after accepted_images all_overwritten
grid_after tables desk [] = refl
grid_after tables desk (grant ∷ grants) =
    grid_after tables (step tables desk grant) grants
    ∙ one_written tables desk.ledger (next desk.ledger grant) grant grants desk.grid (decided desk.ledger grant)

-- the ledger after all grants
pub ledger_of_after : (tables : Tables) (desk : DeskValue) (grants : List Grant)
    → (desk_after tables desk grants).ledger ≡ ledger_after desk.ledger grants
unfolding desk_after ledger_after
ledger_of_after tables desk [] = refl
ledger_of_after tables desk (grant ∷ grants) = ledger_of_after tables (step tables desk grant) grants

-- a desk that was opened is one desk
pub same_desk : (a b : DeskValue) → ◌≡◌ {A = Result DeskValue SlotOver} (Ok a) (Ok b) → a ≡ b
same_desk a b e = cc

new_grid : (cell : RawCell) (frame slot room : ℕ) (members : Result (List Member) SlotOver) (desk : DeskValue)
    → new_desk cell frame slot room members ≡ Ok desk → desk.grid ≡ blank_grid cell.mu frame slot cell.blocks
new_grid cell frame slot room (Ok members) desk e = sym (ap (λ (d : DeskValue). d.grid) (same_desk _ desk e))
new_grid cell frame slot room (Err over) desk e = absurd (let f : ⊥ = cc in f)

-- the grid of a new desk
pub opened_blank : (cell : RawCell) (frame slot room : ℕ) (desk : DeskValue) → opened cell frame slot room ≡ Ok desk
    → desk.grid ≡ blank_grid cell.mu frame slot cell.blocks
opened_blank cell frame slot room desk e = new_grid cell frame slot room _ desk e
