-- The line of a grant that was refused.
use Rattle.std.specs.Prelude.{◌≡◌, ◌<◌, ℕ, List, [], ◌∷◌, ◌++◌, codes, length, None, slice_index_or}
use Rattle.std.specs.Fmt.{decimal}
use Rattle.dci_fields.specs.declared.fault.FieldFault.{FieldFault}
use Rattle.dci_fields.specs.declared.fault.FieldFault.TheVariants.{Unknown, TooLarge, AllOnes}
use Rattle.dci_fields.specs.declared.fault.Given.{Given}
use Rattle.grant_file.specs.declared.grants.Grant.{Grant}
use Rattle.cell_placer.specs.declared.refusal.Refusal.{Refusal}
use Rattle.cell_placer.specs.declared.refusal.Refusal.TheVariants.{UnknownHandset, UnknownSet, Unmonitored, Field, Overlap, Full}

-- a place is one of a grant's values, each of which has its word
pub record IsWorded (grant : Grant) (at : ℕ) : Type 0 where
  pub place : at < length grant.given
  pub in_place : length grant.given ≡ length grant.words

-- the grant has the value that a fault of its fields names, and its word
abbrev pub NamesField : Grant → FieldFault → Type 0
NamesField grant (Unknown at) = IsWorded grant at
NamesField grant (TooLarge at width) = IsWorded grant at
NamesField grant AllOnes = Unit {0}

-- the grant has the value that a refusal names, and its word
abbrev pub IsNamed : Grant → Refusal → Type 0
IsNamed grant (Field fault) = NamesField grant fault
IsNamed grant UnknownHandset = Unit {0}
IsNamed grant UnknownSet = Unit {0}
IsNamed grant Unmonitored = Unit {0}
IsNamed grant (Overlap earlier) = Unit {0}
IsNamed grant (Full room) = Unit {0}

-- the word at a place of a grant's values
abbrev pub word_at : Grant → ℕ → List ℕ
word_at grant at = slice_index_or grant.words at []

-- a value for no field
abbrev pub no_value : Given
no_value = record { name = None; value = 0 }

-- the number at a place of a grant's values
abbrev pub value_at : Grant → ℕ → ℕ
value_at grant at = (slice_index_or grant.given at no_value).value

-- what is wrong with the field values of a grant
abbrev pub field_cause : Grant → FieldFault → List ℕ
field_cause grant (Unknown at) = codes "unknown field " ++ word_at grant at
field_cause grant (TooLarge at width) =
    codes "field " ++ word_at grant at ++ codes " too large: " ++ decimal (value_at grant at) ++ codes " for "
    ++ decimal width ++ codes " bits"
field_cause grant AllOnes = codes "field fdra all ones"

-- why a grant was refused
abbrev pub cause_text : Grant → Refusal → List ℕ
cause_text grant UnknownHandset = codes "unknown handset"
cause_text grant UnknownSet = codes "unknown set"
cause_text grant Unmonitored = codes "unmonitored"
cause_text grant (Field fault) = field_cause grant fault
cause_text grant (Overlap earlier) = codes "overlap with grant " ++ decimal earlier
cause_text grant (Full room) = codes "full at " ++ decimal room

-- what the line of a grant begins with: its number
unfoldable pub refusal_start : ℕ → List ℕ
refusal_start number = codes "grant " ++ decimal number ++ codes ": "

-- the line of a refused grant: its number, then why it was refused
unfoldable pub refusal_line : ℕ → Grant → Refusal → List ℕ
refusal_line number grant refusal = refusal_start number ++ cause_text grant refusal ++ 10 ∷ []
