-- The numbers that stand for formats and kinds of sets in C.
use Rattle.std.specs.Prelude.{◌≡◌, ◌↔◌, ℕ, Some, slice_get}
use Rattle.dci_fields.specs.declared.formats.Format.{Format}
use Rattle.dci_fields.specs.declared.formats.Format.TheVariants as formats
use Rattle.rrc_settings.specs.declared.settings.SetKind.{SetKind}
use Rattle.rrc_settings.specs.declared.settings.SetKind.TheVariants as kinds
use Rattle.nrpdcch_c.specs.declared.numbers.TheConstants.{FORMATS}

-- the number of a format
abbrev pub format_number : Format → ℕ
format_number formats.F00 = 0
format_number formats.F10 = 1
format_number formats.Order = 2
format_number formats.F01 = 3
format_number formats.F11 = 4

-- the number of a kind of set
abbrev pub kind_number : SetKind → ℕ
kind_number kinds.Common = 0
kind_number kinds.Fallback = 1
kind_number kinds.Specific = 2

-- each number is that of one kind
abbrev pub NumbersNameKinds : Type 0
NumbersNameKinds = (a b : SetKind) → kind_number a ≡ kind_number b → a ≡ b

-- a number is that of one format, and the list has each format at its number
abbrev pub NumbersNameFormats : Type 0
NumbersNameFormats = (number : ℕ) (format : Format) → (slice_get FORMATS number ≡ Some format) ↔ (format_number format ≡ number)
