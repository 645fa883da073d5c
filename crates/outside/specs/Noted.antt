-- How a noted name is seen.
use Rattle.std.specs.Prelude.{List, [], Option, Some, None, map}
use Rattle.std.specs.String.{string_bytes}
use Rattle.outside.specs.declared.misses.Miss.{Miss}
use Rattle.outside.specs.declared.misses.Miss.TheVariants.{Failed, TooLong}
use Rattle.outside.specs.Missed.{Missed, FailedName, LongName}

-- the fetch that it notes
abbrev pub missed_of : Miss → Missed
missed_of (Failed name) = FailedName (string_bytes name)
missed_of (TooLong name) = LongName (string_bytes name)

-- the fetches that a list notes, where one has been made
abbrev pub all_missed : Option (List Miss) → List Missed
all_missed None = []
all_missed (Some notes) = map missed_of notes
