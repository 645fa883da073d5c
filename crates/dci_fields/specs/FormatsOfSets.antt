-- What the sets of each kind are searched for: formats, their sizes and the widths of their fields.
use Rattle.std.specs.Prelude.{ℕ, Bool, true, false, cond, Option}
use Rattle.rrc_settings.specs.declared.settings.SetKind.{SetKind}
use Rattle.rrc_settings.specs.declared.settings.SetKind.TheVariants as kinds
use Rattle.dci_fields.specs.declared.formats.Format.{Format}
use Rattle.dci_fields.specs.declared.formats.Format.TheVariants.{F00, F10, F01, F11}
use Rattle.dci_fields.specs.declared.formats.Widths.{Widths}
use Rattle.dci_fields.specs.declared.formats.Widths.TheVariants.{Common, Own}
use Rattle.dci_fields.specs.declared.sizes.Sizes.{Sizes}

-- whether a kind of set is for the formats of fallback
abbrev pub is_for_fallback : SetKind → Bool
is_for_fallback kinds.Common = true
is_for_fallback kinds.Fallback = true
is_for_fallback kinds.Specific = false

-- the uplink format of a kind of set
abbrev pub up_format : SetKind → Format
up_format kinds.Common = F00
up_format kinds.Fallback = F00
up_format kinds.Specific = F01

-- the downlink format of a kind of set
abbrev pub down_format : SetKind → Format
down_format kinds.Common = F10
down_format kinds.Fallback = F10
down_format kinds.Specific = F11

-- the size of the uplink format in a kind of set
abbrev pub up_size : Sizes → SetKind → Option ℕ
up_size sizes kinds.Common = sizes.common
up_size sizes kinds.Fallback = sizes.fallback
up_size sizes kinds.Specific = sizes.up

-- the size of the downlink format in a kind of set
abbrev pub down_size : Sizes → SetKind → Option ℕ
down_size sizes kinds.Common = sizes.common
down_size sizes kinds.Fallback = sizes.fallback
down_size sizes kinds.Specific = sizes.down

-- the bandwidth part that decides the widths in a kind of set: where there would be four sizes, the common one everywhere
abbrev pub widths_in : Sizes → SetKind → Widths
widths_in sizes kinds.Common = Common
widths_in sizes kinds.Fallback = cond sizes.step4 Common Own
widths_in sizes kinds.Specific = Own
