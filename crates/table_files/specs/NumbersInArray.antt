-- Of the code, not of the format: the numbers that a reading has found stand first in an array.
use Rattle.std.specs.Prelude.{List, ℕ, take, Option, Some, None, Result, Ok, Err}
use Rattle.table_files.specs.TableText.{DigitRun, Reading}
use Rattle.table_files.specs.declared.fault.TableFault.{TableFault}
use Rattle.table_files.specs.declared.reader.Progress.{Progress}
use Rattle.table_files.specs.declared.reader.Run.{Run}

-- a run of digits as the text's words have it
abbrev pub digits_of : Run → DigitRun
digits_of run = record { at = run.at; value = run.value }

-- the same where there may be none
abbrev pub run_of : Option Run → Option DigitRun
run_of None = None
run_of (Some run) = Some (digits_of run)

-- a reading whose numbers stand first in an array
abbrev pub reading_of : List ℕ → Progress → Reading
reading_of numbers progress = record { numbers = take progress.found numbers; run = run_of progress.run }

-- what one byte led to, its numbers in an array
abbrev pub reading_found : List ℕ → Result Progress TableFault → Result Reading TableFault
reading_found numbers (Ok progress) = Ok (reading_of numbers progress)
reading_found numbers (Err fault) = Err fault

-- the first numbers of an array, as many as a reading found
abbrev pub first_found : List ℕ → Result ℕ TableFault → Result (List ℕ) TableFault
first_found numbers (Ok found) = Ok (take found numbers)
first_found numbers (Err fault) = Err fault

-- all numbers of an array, where a reading filled it
abbrev pub all_found : {A : Type 0} → List ℕ → Result A TableFault → Result (List ℕ) TableFault
all_found numbers (Ok _) = Ok numbers
all_found numbers (Err fault) = Err fault
