-- What opening a cell answers, and what it leaves.
use Rattle.std.specs.Prelude.{◌≡◌, ℕ, List, Option, None, Some, Result, Ok, Err}
use Rattle.std.specs.declared.alloc.Global.{Global}
use Rattle.std.specs.Prelude.{Box}
use Rattle.rrc_settings.specs.declared.place.SettingsFault.{SettingsFault}
use Rattle.rrc_settings.specs.declared.settings.RawCell.{RawCell}
use Rattle.settings_json.specs.First.{first_fault_in, raw_in}
use Rattle.table_files.specs.declared.fault.TableFault.{TableFault}
use Rattle.table_files.specs.TableText.{read_table}
use Rattle.nrpdcch_c.specs.declared.handle.Opened.{Opened}
use Rattle.nrpdcch_c.specs.declared.stop.Stop.{Stop}
use Rattle.nrpdcch_c.specs.declared.stop.Stop.TheVariants as stops
use Rattle.nrpdcch_c.specs.declared.fault.NrpdcchFault.{NrpdcchFault}
use Rattle.nrpdcch_c.specs.declared.status.Status.TheVariants as status
use Rattle.nrpdcch_c.specs.Faults.{fault_left}
use Rattle.nrpdcch_c.specs.Statuses.{number_of}
use Rattle.nrpdcch_c.specs.Stops.{and_then, answer_number}

-- the settings that are spelled, or the first fault that is found with them
abbrev pub settings_or_fault : RawCell → Option SettingsFault → Result RawCell Stop
settings_or_fault raw None = Ok raw
settings_or_fault raw (Some fault) = Err (stops.Settings fault)

-- the legal cell of a text, or the text's first fault
abbrev pub cell_in : List ℕ → Result RawCell Stop
cell_in bytes = settings_or_fault (raw_in bytes) (first_fault_in bytes)

-- a table, or why it is refused
abbrev pub table_or_fault : (TableFault → Stop) → Result (List ℕ) TableFault → Result (List ℕ) Stop
table_or_fault refused (Ok numbers) = Ok numbers
table_or_fault refused (Err fault) = Err (refused fault)

-- a cell with its tables
abbrev pub opened_by : RawCell → List ℕ → List ℕ → Opened
opened_by cell reliability input_order = record {
  cell = cell;
  tables = record { reliability = reliability; input_order = input_order };
}

-- what the texts of settings, reliability and input order spell, or the first cause against it
unfoldable pub opened_in : List ℕ → List ℕ → List ℕ → Result Opened Stop
opened_in settings reliability input_order =
    and_then (cell_in settings) (λ cell.
    and_then (table_or_fault stops.Reliability (read_table 1024 reliability)) (λ first.
    and_then (table_or_fault stops.InputOrder (read_table 164 input_order)) (λ second.
    Ok (opened_by cell first second))))

-- the same with a handle that may be open already
abbrev pub opening : Option Opened → List ℕ → List ℕ → List ℕ → Result Opened Stop
opening None settings reliability input_order = opened_in settings reliability input_order
opening (Some opened) settings reliability input_order = Err stops.Open

-- what opening leaves behind the handle
abbrev pub handle_left : Result Opened Stop → Option Opened → Option Opened
handle_left (Ok opened) old = Some opened
handle_left (Err stop) old = old

-- what is in the box
abbrev pub unboxed : Result (Box Opened Global) Stop → Result Opened Stop
unboxed (Ok opened) = Ok opened.value
unboxed (Err stop) = Err stop

-- what opening leaves, by its answer
pub record OpenLeaves (number : ℕ) (cell cell-new : Option Opened) (fault fault-new : NrpdcchFault)
    (answer : Result Opened Stop) : Type 0 where
  pub number_is : number ≡ answer_number answer
  pub cell_is : cell-new ≡ handle_left answer cell
  pub fault_is : fault-new ≡ fault_left answer fault

-- what closing answers
abbrev pub closing : Option Opened → ℕ
closing None = number_of status.Closed
closing (Some opened) = number_of status.Done
