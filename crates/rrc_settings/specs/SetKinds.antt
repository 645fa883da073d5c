-- The kinds of search space sets (3GPP TS 38.213, 10.1; TS 38.331, `SearchSpace`).
use Rattle.std.specs.Prelude.{Bool, true, false}
use Rattle.rrc_settings.specs.declared.settings.SetKind.{SetKind}
use Rattle.rrc_settings.specs.declared.settings.SetKind.TheVariants.{Common, Fallback, Specific}

-- whether a set is common
abbrev pub is_common : SetKind → Bool
is_common Common = true
is_common Fallback = false
is_common Specific = false

-- whether a set is specific
abbrev pub is_specific : SetKind → Bool
is_specific Common = false
is_specific Fallback = false
is_specific Specific = true
