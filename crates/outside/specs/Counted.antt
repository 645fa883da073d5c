-- What a shelf counts and notes of a fetch.
use Rattle.std.specs.Prelude.{◌≤◌, ◌++◌, ◌∷◌, [], ℕ, List, Result, Ok, Err}
use Rattle.outside.specs.declared.faults.FetchFault.{FetchFault}
use Rattle.outside.specs.declared.faults.FetchFault.TheVariants.{Failed, TooLong, NoMemory}
use Rattle.outside.specs.Causes.{next_count}
use Rattle.outside.specs.Counts.{Counts}
use Rattle.outside.specs.Missed.{FailedName, LongName}

-- the counts after a fetch of this name, by its answer: a fault adds one to its count, and its name
abbrev pub counts_after : Counts → List ℕ → Result (Unit {0}) FetchFault → Counts
counts_after old name (Ok _) = old
counts_after old name (Err Failed) = record old { faults = next_count old.faults; missed = old.missed ++ FailedName name ∷ [] }
counts_after old name (Err TooLong) = record old { longs = next_count old.longs; missed = old.missed ++ LongName name ∷ [] }
counts_after old name (Err NoMemory) = old

-- neither count fell
abbrev pub IsLater : Counts → Counts → Type 0
IsLater old new = (old.faults ≤ new.faults) × (old.longs ≤ new.longs)
