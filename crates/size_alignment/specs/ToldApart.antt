-- The formats of fallback and the others are told apart by their sizes.
use Rattle.std.specs.Prelude.{◌≡◌, ◌≢◌, ℕ, Some}
use Rattle.rrc_settings.specs.declared.settings.RawCell.{RawCell}
use Rattle.rrc_settings.specs.declared.settings.Handset.{Handset}
use Rattle.dci_fields.specs.Alignment.{sizes_of}

-- neither format 0_1 nor 1_1, where it has a size, is as long as the fallback formats 0_0 and 1_0 of the handset's sets, which
-- share one size
abbrev pub SizesDiffer : Type 0
SizesDiffer = (cell : RawCell) (handset : Handset) (fallback other : ℕ) → (sizes_of cell handset).fallback ≡ Some fallback
    → ((sizes_of cell handset).up ≡ Some other → fallback ≢ other)
    × ((sizes_of cell handset).down ≡ Some other → fallback ≢ other)
