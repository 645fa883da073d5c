-- The first fault of settings, over the three passes: their shape, the ranges of their numbers, and what may not stand together.
use Rattle.std.specs.Prelude.{ℕ, List, [], ◌∷◌}
use Rattle.rrc_settings.specs.declared.place.Reason.TheVariants.{NotJson}
use Rattle.rrc_settings.specs.declared.settings.RawCell.{RawCell}
use Rattle.rrc_settings.specs.Faults.{Finding, fault_at, first_of}
use Rattle.rrc_settings.specs.Legal.{first_fault}
use Rattle.rrc_settings.specs.Naming.{whole}
use Rattle.serde_json.specs.Data.{Data}
use Rattle.settings_json.specs.Shapes.{cell}
use Rattle.json_form.specs.Texts.{found_in, spelled_in}
use Rattle.settings_json.specs.Values.{raw_value}

-- the first fault of the shape, and then of the settings that the value spells
unfoldable pub first_fault_of : Data → Finding
first_fault_of d = first_of (cell whole d ∷ first_fault (raw_value d) ∷ [])

-- the first fault of the bytes, over all three passes
abbrev pub first_fault_in : List ℕ → Finding
first_fault_in bytes = found_in (fault_at [] NotJson) first_fault_of bytes

-- the settings that the bytes spell; those of null where they are no JSON
abbrev pub raw_in : List ℕ → RawCell
raw_in bytes = spelled_in raw_value bytes
