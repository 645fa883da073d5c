-- Which settings a cell may have.
use Rattle.std.specs.Prelude.{◌≡◌, [], ◌∷◌, None}
use Rattle.rrc_settings.specs.declared.settings.RawCell.{RawCell}
use Rattle.rrc_settings.specs.Faults.{Finding, first_of}
use Rattle.rrc_settings.specs.Table.{cell_ranges}
use Rattle.rrc_settings.specs.Conflicts.{cell_conflicts}

-- the first check that fails: each number's range, and then what may not stand together
unfoldable pub first_fault : RawCell → Finding
first_fault raw = first_of (cell_ranges raw ∷ cell_conflicts raw ∷ [])

-- no check fails
abbrev pub IsLegal : RawCell → Type 0
IsLegal raw = first_fault raw ≡ None
