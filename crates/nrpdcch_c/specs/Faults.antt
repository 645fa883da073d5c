-- What is told of a refusal, as C has it.
use Rattle.std.specs.Prelude.{◌≡◌, ℕ, List, map, length, replicate, false, true, Result, Ok, Err}
use Rattle.dci_fields.specs.declared.fault.FieldFault.{FieldFault}
use Rattle.dci_fields.specs.declared.fault.FieldFault.TheVariants as fields
use Rattle.rrc_settings.specs.declared.place.Reason.{Reason}
use Rattle.rrc_settings.specs.declared.place.Reason.TheVariants as reasons
use Rattle.rrc_settings.specs.declared.place.SettingsFault.{SettingsFault}
use Rattle.rrc_settings.specs.declared.place.Step.{Step}
use Rattle.rrc_settings.specs.declared.place.Step.TheVariants.{Key, Index}
use Rattle.table_files.specs.declared.fault.TableFault.{TableFault}
use Rattle.table_files.specs.declared.fault.TableFault.TheVariants as tables
use Rattle.nrpdcch_c.specs.declared.fault.NrpdcchFault.{NrpdcchFault}
use Rattle.nrpdcch_c.specs.declared.fault.NrpdcchStep.{NrpdcchStep}
use Rattle.nrpdcch_c.specs.declared.stop.Stop.{Stop}
use Rattle.nrpdcch_c.specs.declared.stop.Stop.TheVariants as stops
use Rattle.nrpdcch_c.specs.KeyNumbers.{key_number}
use Rattle.nrpdcch_c.specs.Overlaid.{overlaid}

-- the number of a reason
abbrev pub reason_number : Reason → ℕ
reason_number reasons.NotJson = 1
reason_number reasons.Missing = 2
reason_number reasons.Unknown = 3
reason_number reasons.WrongKind = 4
reason_number reasons.OutOfRange = 5
reason_number reasons.Conflict = 6

-- each number is that of one reason
abbrev pub NumbersNameReasons : Type 0
NumbersNameReasons = (a b : Reason) → reason_number a ≡ reason_number b → a ≡ b

-- a step
abbrev pub step_of : Step → NrpdcchStep
step_of (Key key) = record { value = key_number key; element = false }
step_of (Index index) = record { value = index; element = true }

-- no step
abbrev pub no_step : NrpdcchStep
no_step = record { value = 0; element = false }

-- a way to a place, which has six steps at most, and behind them nothing
abbrev pub steps_of : List Step → List NrpdcchStep
steps_of steps = overlaid (map step_of steps) (replicate 6 no_step)

-- a fault with no steps
abbrev pub fault_by : ℕ → ℕ → ℕ → ℕ → NrpdcchFault
fault_by part reason value at = record {
  part = part;
  reason = reason;
  value = value;
  count = 0;
  at = at;
  steps = replicate 6 no_step;
}

-- no fault
abbrev pub no_fault : NrpdcchFault
no_fault = fault_by 0 0 0 0

-- a fault of the settings
abbrev pub settings_fault : SettingsFault → NrpdcchFault
settings_fault fault = record {
  part = 0;
  reason = reason_number fault.reason;
  value = 0;
  count = length fault.place.steps.items;
  at = 0;
  steps = steps_of fault.place.steps.items;
}

-- a fault of a table: 1 is the reliability, 2 the input order
abbrev pub table_fault : ℕ → TableFault → NrpdcchFault
table_fault part (tables.BadByte at) = fault_by part 1 0 at
table_fault part (tables.TooLarge at value) = fault_by part 2 value at
table_fault part (tables.Repeated value) = fault_by part 3 value 0
table_fault part (tables.Count found) = fault_by part 4 found 0

-- a fault of field values
abbrev pub field_fault : FieldFault → NrpdcchFault
field_fault (fields.Unknown at) = fault_by 0 1 0 at
field_fault (fields.TooLarge at width) = fault_by 0 2 width at
field_fault fields.AllOnes = fault_by 0 3 0 0

-- what is told of a refusal
abbrev pub fault_of : Stop → NrpdcchFault
fault_of (stops.Settings fault) = settings_fault fault
fault_of (stops.Reliability fault) = table_fault 1 fault
fault_of (stops.InputOrder fault) = table_fault 2 fault
fault_of (stops.Field fault) = field_fault fault
fault_of (stops.GridByte at) = fault_by 0 0 0 at
fault_of (stops.Small needed) = fault_by 0 0 0 needed
fault_of (stops.GridText at) = fault_by 0 0 0 at
fault_of stops.Argument = no_fault
fault_of stops.NoMemory = no_fault
fault_of stops.Closed = no_fault
fault_of stops.Open = no_fault
fault_of stops.Over = no_fault
fault_of stops.NoHandset = no_fault
fault_of stops.NoWatch = no_fault
fault_of stops.NoFormat = no_fault
fault_of stops.NotCarried = no_fault
fault_of (stops.Silent _) = no_fault
fault_of stops.GridLength = no_fault

-- what a call leaves where its refusals are told
abbrev pub fault_left : {A : Type 0} → Result A Stop → NrpdcchFault → NrpdcchFault
fault_left (Ok a) old = old
fault_left (Err stop) old = fault_of stop
