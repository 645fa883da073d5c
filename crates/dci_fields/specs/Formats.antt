-- The formats of downlink control information (3GPP TS 38.212, 7.3.1).
use Rattle.std.specs.Prelude.{ℕ, List, Option, codes, bytes_eq}
use Rattle.std.specs.List.{find}
use Rattle.dci_fields.specs.declared.formats.Format.{Format}
use Rattle.dci_fields.specs.declared.formats.Format.TheVariants.{F00, F10, Order, F01, F11}
use Rattle.dci_fields.specs.declared.formats.TheConstants.{FORMATS}

-- the word that names a format
abbrev pub format_word : Format → List ℕ
format_word F00 = codes "0_0"
format_word F10 = codes "1_0"
format_word Order = codes "order"
format_word F01 = codes "0_1"
format_word F11 = codes "1_1"

-- the format that a word names, none where no format has it
unfoldable pub format_named : List ℕ → Option Format
format_named word = find (λ (format : Format). bytes_eq (format_word format) word) FORMATS

-- the value of the identifier: 0 for an uplink format, 1 for a downlink format
abbrev pub identifier_of : Format → ℕ
identifier_of F00 = 0
identifier_of F10 = 1
identifier_of Order = 1
identifier_of F01 = 0
identifier_of F11 = 1
