-- What spelling leaves, as a function.
use Rattle.std.proofs.Common.{◌≡◌, List, [], None, Option, Some, ap, refl, sym, ◌∙◌}
use Rattle.std.specs.Prelude.{unwrap_or}
use Rattle.crc_mask.specs.Parity.{masked}
use Rattle.dci_codec.specs.BlockImage.{block_image}
use Rattle.dci_codec.specs.Spelled.{IsSpelled}
use Rattle.dci_fields.specs.declared.fault.FieldFault.{FieldFault}
use Rattle.dci_fields.specs.declared.fault.Given.{Given}
use Rattle.dci_fields.specs.declared.formats.Format.{Format}
use Rattle.dci_fields.specs.declared.rows.FieldRow.{FieldRow}
use Rattle.dci_fields.specs.FirstFieldFault.{field_fault}
use Rattle.dci_fields.specs.GivenValues.{IsFieldFault}
use Rattle.dci_fields.proofs.FirstFieldFaults.{finds_field_fault}
use Rattle.monitor_plan.specs.declared.watch.Watch.{Watch}
use Rattle.slot_grid.specs.Grid.{GridValue}
use Rattle.slot_grid.specs.Image.{Image, overwritten}
use Rattle.table_files.specs.declared.tables.Tables.{Tables}
use Rattle.nrpdcch_c.specs.Spelling.{spelled_on}

-- the grid on which values were spelled
pub spelled_is : (tables : Tables) (watch : Watch) (format : Format) (given : List Given) (old new : GridValue)
    → IsSpelled tables watch format given old new → new ≡ spelled_on tables watch format given old
unfolding spelled_on
spelled_is tables watch format given old new is =
    is.written
    ∙ ap (λ p. overwritten (block_image tables old.slot watch (masked (unwrap_or p []) watch.rnti)) old) (sym is.packs)

-- values with no fault have no first one
pub faultless : (rows : List FieldRow) (format : Format) (given : List Given) → ((fault : FieldFault)
    → IsFieldFault rows format given fault → ⊥)
    → field_fault rows format given ≡ None
faultless rows format given none = go (field_fault rows format given) refl where
  go : (found : Option FieldFault) → field_fault rows format given ≡ found → found ≡ None
  go None e = refl
  go (Some fault) e = absurd (none fault ((finds_field_fault rows format given fault).0 e))

-- what is written on a grid leaves its blocks
pub keeps_blocks : (image : Image) (grid : GridValue) → (overwritten image grid).blocks ≡ grid.blocks
unfolding overwritten
keeps_blocks image grid = refl
