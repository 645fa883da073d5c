-- The grid that grants leave is a grid with the numbers of the one before them.
use Rattle.std.proofs.Common.{◌≡◌, List, [], ◌∷◌, Result, Ok, Err, refl, ◌∙◌}
use Rattle.slot_grid.specs.Grid.{GridValue, IsGrid}
use Rattle.slot_grid.specs.Image.{overwritten}
use Rattle.slot_grid.proofs.Images.{overwritten_is}
use Rattle.table_files.specs.declared.tables.Tables.{Tables}
use Rattle.grant_file.specs.declared.grants.Grant.{Grant}
use Rattle.cell_placer.specs.declared.member.Accepted.{Accepted}
use Rattle.cell_placer.specs.declared.refusal.Refusal.{Refusal}
use Rattle.cell_placer.specs.Ledger.{LedgerValue, watch_of}
use Rattle.cell_placer.specs.Fate.{decided}
use Rattle.cell_placer.specs.Placing.{DeskValue, grant_image, written, step, desk_after}

-- a grid with the numbers of another
pub record IsGridLike (old new : GridValue) : Type 0 where
  pub grid : IsGrid new
  pub mu : new.mu ≡ old.mu
  pub frame : new.frame ≡ old.frame
  pub slot : new.slot ≡ old.slot
  pub blocks : new.blocks ≡ old.blocks

one_written : (tables : Tables) (ledger : LedgerValue) (grant : Grant) (grid : GridValue) (r : Result Accepted Refusal)
    → IsGrid grid
    → IsGridLike grid (written tables ledger grant grid r)
unfolding overwritten
one_written tables ledger grant grid (Ok a) legal = record {
  grid = overwritten_is (grant_image tables grid.slot (watch_of ledger.members a) grant) grid legal;
  mu = refl;
  frame = refl;
  slot = refl;
  blocks = refl;
}
one_written tables ledger grant grid (Err refusal) legal =
    record { grid = legal; mu = refl; frame = refl; slot = refl; blocks = refl }

-- all grants
pub all_written : (tables : Tables) (desk : DeskValue) (grants : List Grant) → IsGrid desk.grid
    → IsGridLike desk.grid (desk_after tables desk grants).grid
unfolding desk_after
all_written tables desk [] legal = record { grid = legal; mu = refl; frame = refl; slot = refl; blocks = refl }
all_written tables desk (grant ∷ grants) legal =
    let one = one_written tables desk.ledger grant desk.grid (decided desk.ledger grant) legal in
    let all = all_written tables (step tables desk grant) grants one.grid in
    record {
      grid = all.grid;
      mu = all.mu ∙ one.mu;
      frame = all.frame ∙ one.frame;
      slot = all.slot ∙ one.slot;
      blocks = all.blocks ∙ one.blocks;
    }
