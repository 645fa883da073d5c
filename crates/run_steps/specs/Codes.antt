-- The exit status of each way in which a run ends.
use Rattle.std.specs.Prelude.{ℕ}
use Rattle.run_steps.specs.declared.statuses.Status.{Status}
use Rattle.run_steps.specs.declared.statuses.Status.TheVariants.{Done, Usage, GrantsRefused, SettingsRefused}
use Rattle.run_steps.specs.declared.statuses.Status.TheVariants.{TableRefused, GrantsFileRefused, GridRefused}
use Rattle.run_steps.specs.declared.statuses.Status.TheVariants.{ReadFault, WriteFault, NoMemory, FileTooLong, NoSuch}
use Rattle.run_steps.specs.declared.statuses.Status.TheVariants.{SlotRefused}

-- the exit status that stands for it
abbrev pub code_of : Status → ℕ
code_of Done = 0
code_of Usage = 2
code_of GrantsRefused = 3
code_of SettingsRefused = 4
code_of TableRefused = 5
code_of GrantsFileRefused = 6
code_of GridRefused = 7
code_of ReadFault = 8
code_of WriteFault = 9
code_of NoMemory = 10
code_of FileTooLong = 11
code_of NoSuch = 12
code_of SlotRefused = 13
