-- What is spelled in a cell, for a caller whose numbers and bytes may be out of range.
use Rattle.std.specs.Prelude.{◌≡◌, ℕ, Bool, cond, List, [], map, Option, None, Some, slice_get, unwrap_or, Result, Ok, Err}
use Rattle.std.specs.Option.{ok_or}
use Rattle.crc_mask.specs.Parity.{masked}
use Rattle.dci_codec.specs.BlockImage.{block_image}
use Rattle.dci_fields.specs.declared.fault.FieldFault.{FieldFault}
use Rattle.dci_fields.specs.declared.fault.Given.{Given}
use Rattle.dci_fields.specs.declared.formats.Format.{Format}
use Rattle.dci_fields.specs.FirstFieldFault.{field_fault}
use Rattle.dci_fields.specs.GivenValues.{settled}
use Rattle.dci_fields.specs.Payloads.{payload_of}
use Rattle.monitor_plan.specs.declared.watch.Watch.{Watch}
use Rattle.monitor_plan.specs.Watch.{fits, list_of}
use Rattle.slot_grid.specs.Grid.{GridValue}
use Rattle.slot_grid.specs.Image.{overwritten}
use Rattle.table_files.specs.declared.tables.Tables.{Tables}
use Rattle.nrpdcch_c.specs.declared.fault.NrpdcchFault.{NrpdcchFault}
use Rattle.nrpdcch_c.specs.declared.handle.Opened.{Opened}
use Rattle.nrpdcch_c.specs.declared.heard.NrpdcchField.{NrpdcchField}
use Rattle.nrpdcch_c.specs.declared.numbers.TheConstants.{FORMATS, NAMES}
use Rattle.nrpdcch_c.specs.declared.stop.Stop.{Stop}
use Rattle.nrpdcch_c.specs.declared.stop.Stop.TheVariants as stops
use Rattle.nrpdcch_c.specs.Faults.{fault_left}
use Rattle.nrpdcch_c.specs.Handles.{in_opened}
use Rattle.nrpdcch_c.specs.Overlaid.{overlaid}
use Rattle.nrpdcch_c.specs.Planning.{plan_in, watch_in}
use Rattle.nrpdcch_c.specs.Points.{byte_of, grid_in}
use Rattle.nrpdcch_c.specs.Stops.{and_then, answer_number}

-- the format of a number
abbrev pub format_in : ℕ → Result Format Stop
format_in number = ok_or (slice_get FORMATS number) stops.NoFormat

-- a format that a watch carries
abbrev pub carried : Watch → Format → Result Format Stop
carried watch format = cond (fits watch format) (Ok format) (Err stops.NotCarried)

-- a value that is asked for, with the name of its number
abbrev pub given_of : NrpdcchField → Given
given_of field = record { name = slice_get NAMES field.name; value = field.value }

-- the payload of the values that are given
abbrev pub payload_at : Watch → Format → List Given → Option (List Bool)
payload_at watch format given =
    payload_of (list_of watch format) format (settled (list_of watch format) format given) watch.size

-- the grid overwritten with what that payload, masked by the watch's RNTI, writes at the watch
unfoldable pub spelled_on : Tables → Watch → Format → List Given → GridValue → GridValue
spelled_on tables watch format given grid =
    overwritten (block_image tables grid.slot watch (masked (unwrap_or (payload_at watch format given) []) watch.rnti)) grid

-- a grid, or what is wrong with field values
abbrev pub grid_or_fault : GridValue → Option FieldFault → Result GridValue Stop
grid_or_fault grid None = Ok grid
grid_or_fault grid (Some fault) = Err (stops.Field fault)

-- the grid on which the values are spelled, or what is wrong with them
abbrev pub spelled : Tables → Watch → Format → List Given → GridValue → Result GridValue Stop
spelled tables watch format given grid =
    grid_or_fault (spelled_on tables watch format given grid) (field_fault (list_of watch format) format given)

-- the grid that bytes are, with the fields of a format spelled for a handset of an opened cell in a slot at the watch of a
-- number; or the first cause against it: of the plan, of the watch, of the format, of the bytes, and then of the fields
unfoldable pub spell_in : Opened → ℕ → ℕ → ℕ → ℕ → ℕ → List NrpdcchField → List ℕ → Result GridValue Stop
spell_in opened handset frame slot number format fields bytes =
    and_then (plan_in opened.cell handset frame slot) (λ plan.
    and_then (watch_in plan number) (λ watch.
    and_then (format_in format) (λ named.
    and_then (carried watch named) (λ f.
    and_then (grid_in opened.cell.mu frame slot opened.cell.blocks bytes) (λ grid.
    spelled opened.tables watch f (map given_of fields) grid)))))

-- the same for the cell behind a handle
abbrev pub spell_wanted : Option Opened → ℕ → ℕ → ℕ → ℕ → ℕ → List NrpdcchField → List ℕ → Result GridValue Stop
spell_wanted opened handset frame slot number format fields bytes =
    in_opened opened (λ o. spell_in o handset frame slot number format fields bytes)

-- what a call leaves of a caller's grid: the points first, and then what stood there
abbrev pub bytes_left : Result GridValue Stop → List ℕ → List ℕ
bytes_left (Ok grid) old = overlaid (map byte_of grid.points) old
bytes_left (Err stop) old = old

-- what spelling leaves, by its answer
pub record SpellLeaves (number : ℕ) (grid grid-new : List ℕ) (fault fault-new : NrpdcchFault) (answer : Result GridValue Stop) :
    Type 0 where
  pub number_is : number ≡ answer_number answer
  pub grid_is : grid-new ≡ bytes_left answer grid
  pub fault_is : fault-new ≡ fault_left answer fault
