-- What the reading of a grid answers. `IsWhy` is of the code, not of the format.
use Rattle.std.specs.Prelude.{ℕ, List}
use Rattle.grid_file.specs.declared.fault.GridError.{GridError}
use Rattle.grid_file.specs.declared.fault.GridError.TheVariants.{Fault, NoMemory}
use Rattle.grid_file.specs.GridText.{IsGridText}
use Rattle.grid_file.specs.LeavingPlace.{LeavesAt}

-- the fault at a place
abbrev pub fault_at : ℕ → GridError
fault_at place = Fault (record { at = place })

-- the error is want of memory, or the place where the bytes leave every grid's text
abbrev pub IsWhy : List ℕ → GridError → Type 0
IsWhy bytes NoMemory = Unit {0}
IsWhy bytes (Fault fault) = LeavesAt IsGridText bytes fault.at
