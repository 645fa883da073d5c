-- What spelling leaves on a grid, and that it is heard there.
use Rattle.std.specs.Prelude.{◌≡◌, ℕ, Bool, true, List, Some}
use Rattle.crc_mask.specs.Parity.{masked}
use Rattle.dci_fields.specs.declared.fault.Given.{Given}
use Rattle.dci_fields.specs.declared.formats.Format.{Format}
use Rattle.dci_fields.specs.GivenValues.{settled}
use Rattle.dci_fields.specs.Payloads.{payload_of}
use Rattle.monitor_plan.specs.declared.watch.Watch.{Watch}
use Rattle.monitor_plan.specs.Watch.{fits, list_of, IsSound, IsInside}
use Rattle.slot_grid.specs.Grid.{GridValue}
use Rattle.slot_grid.specs.Image.{overwritten}
use Rattle.table_files.specs.declared.tables.Tables.{Tables}
use Rattle.dci_codec.specs.BlockImage.{block_image}
use Rattle.dci_codec.specs.Hearing.{AreTables, Spells, heard_of}
use Rattle.dci_codec.specs.Spelling.{Spelling}
use Rattle.dci_codec.specs.TheSpelling.{heard_at}

-- a format with the settled values of what is given
abbrev pub spelling_by : Watch → Format → List Given → Spelling
spelling_by watch format given = record { format = format; values = settled (list_of watch format) format given }

-- the grid was overwritten with what the payload of the settled values, masked by the watch's RNTI, writes at the watch
pub record IsSpelled (tables : Tables) (watch : Watch) (format : Format) (given : List Given) (old new : GridValue) : Type 0 where
  pub payload : List Bool
  pub packs : payload_of (list_of watch format) format (settled (list_of watch format) format given) watch.size ≡ Some payload
  pub written : new ≡ overwritten (block_image tables old.slot watch (masked payload watch.rnti)) old

-- the grid on which something was spelled spells it, and its shown values are heard
abbrev pub HearsWhatWasSpelled : Type 0
HearsWhatWasSpelled =
    (tables : Tables) (watch : Watch) (format : Format) (given : List Given) (old new : GridValue) (number : ℕ) →
    AreTables tables → IsSound watch → fits watch format ≡ true →
    IsInside old.blocks watch → IsSpelled tables watch format given old new →
    Spells tables new watch (spelling_by watch format given)
    × (heard_at tables new watch number ≡ Some (heard_of watch number (spelling_by watch format given)))
