-- The formats that a handset listens for.
use Rattle.std.specs.Prelude.{List, [], ◌∷◌}
use Rattle.dci_fields.specs.declared.formats.Format.{Format}
use Rattle.dci_fields.specs.declared.formats.Format.TheVariants.{F00, F10, Order, F01, F11}

-- every format
abbrev pub formats : List Format
formats = F00 ∷ F10 ∷ Order ∷ F01 ∷ F11 ∷ []
