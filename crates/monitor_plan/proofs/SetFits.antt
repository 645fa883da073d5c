-- The formats of a set of a legal cell fit their sizes.
use Rattle.std.proofs.Common.{◌≡◌, ℕ, ◌<◌, Option, Some, IsTrue, refl, sym, ◌∙◌, subst}
use Rattle.rrc_settings.specs.declared.settings.RawCell.{RawCell}
use Rattle.rrc_settings.specs.declared.settings.Handset.{Handset}
use Rattle.rrc_settings.specs.declared.settings.SearchSet.{SearchSet}
use Rattle.rrc_settings.specs.declared.settings.SetKind.{SetKind}
use Rattle.rrc_settings.specs.declared.settings.SetKind.TheVariants as kinds
use Rattle.dci_fields.specs.declared.formats.Format.{Format}
use Rattle.dci_fields.specs.declared.formats.Widths.{Widths}
use Rattle.dci_fields.specs.declared.sizes.Sizes.{Sizes}
use Rattle.dci_fields.specs.FormatRows.{rows_of, has_fields}
use Rattle.dci_fields.specs.FittedRows.{excess, fdra_of}
use Rattle.dci_fields.specs.Alignment.{sizes_of}
use Rattle.rrc_settings.specs.LegalCell.{IsLegalCell, IsLegalHandset, IsLegalSearchSet}
use Rattle.dci_fields.specs.FormatsOfSets.{up_format, down_format, up_size, down_size, widths_in}
use Rattle.size_alignment.proofs.FittingSizes.{HasFields, SetFit, set_fit}

-- the formats of a set of a legal cell fit their sizes
pub legal_fit : (cell : RawCell) (h : Handset) (s : SearchSet) → IsLegalCell cell → IsLegalHandset cell h → IsLegalSearchSet h s
    → SetFit cell h (sizes_of cell h) s.kind
legal_fit cell h s legal there known =
    set_fit cell h s.kind legal there (record { up = λ e. (known.fields e).0; down = λ e. (known.fields e).1 })

-- the fields that a format of the set asks for are there
up_has : (h : Handset) (kind : SetKind) → HasFields h kind → IsTrue (has_fields h (up_format kind))
up_has h kinds.Common f = refl
up_has h kinds.Fallback f = refl
up_has h kinds.Specific f = f.up refl

down_has : (h : Handset) (kind : SetKind) → HasFields h kind → IsTrue (has_fields h (down_format kind))
down_has h kinds.Common f = refl
down_has h kinds.Fallback f = refl
down_has h kinds.Specific f = f.down refl

-- the settings have the fields of the uplink format
pub up_asked : (h : Handset) (kind : SetKind) (format : Format) → HasFields h kind → format ≡ up_format kind
    → IsTrue (has_fields h format)
up_asked h kind format f e = subst (λ (x : Format). IsTrue (has_fields h x)) (sym e) (up_has h kind f)

-- and of the downlink format
pub down_asked : (h : Handset) (kind : SetKind) (format : Format) → HasFields h kind → format ≡ down_format kind
    → IsTrue (has_fields h format)
down_asked h kind format f e = subst (λ (x : Format). IsTrue (has_fields h x)) (sym e) (down_has h kind f)

-- and a list is cut by less than its frequency assignment
abbrev IsCut : RawCell → Handset → ℕ → Format → Widths → Type 0
IsCut cell h size format widths = excess (rows_of cell h format widths) size < fdra_of (rows_of cell h format widths)

-- the fields of the uplink format are cut by less than their frequency assignment
pub up_cut : (cell : RawCell) (h : Handset) (sizes : Sizes) (kind : SetKind) (own : Option ℕ) (format : Format)
    (widths : Widths) (size : ℕ) → SetFit cell h sizes kind
    → own ≡ up_size sizes kind → format ≡ up_format kind → widths ≡ widths_in sizes kind → own ≡ Some size
    → IsCut cell h size format widths
up_cut cell h sizes kind own format widths size f o e w s =
    subst (λ (x : Format). IsCut cell h size x widths) (sym e)
    (subst (λ (x : Widths). IsCut cell h size (up_format kind) x) (sym w) (f.up size (sym o ∙ s)).cut)

-- and those of the downlink format are
pub down_cut : (cell : RawCell) (h : Handset) (sizes : Sizes) (kind : SetKind) (own : Option ℕ) (format : Format)
    (widths : Widths) (size : ℕ) → SetFit cell h sizes kind
    → own ≡ down_size sizes kind → format ≡ down_format kind → widths ≡ widths_in sizes kind → own ≡ Some size
    → IsCut cell h size format widths
down_cut cell h sizes kind own format widths size f o e w s =
    subst (λ (x : Format). IsCut cell h size x widths) (sym e)
    (subst (λ (x : Widths). IsCut cell h size (down_format kind) x) (sym w) (f.down size (sym o ∙ s)).cut)
