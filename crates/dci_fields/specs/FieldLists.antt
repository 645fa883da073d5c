-- Lists of fields with their widths (3GPP TS 38.212, 7.3.1).
use Rattle.std.specs.Prelude.{◌≡◌, ℕ, ◌≤◌, Bool, true, not, ◌&&◌, nat_lt, List, [], ◌∷◌, length}
use Rattle.std.specs.List.{list_all, list_any, sum_by}
use Rattle.dci_fields.specs.declared.names.FieldName.TheVariants as names
use Rattle.dci_fields.specs.declared.rows.FieldRow.{FieldRow}
use Rattle.dci_fields.specs.SameNames.{same_name}

-- how many bits the rows have
abbrev pub width_of : List FieldRow → ℕ
width_of rows = sum_by (λ (row : FieldRow). row.width) rows

-- the first row is the identifier, in one bit
abbrev pub BeginsWithIdentifier : List FieldRow → Type 0
BeginsWithIdentifier [] = ⊥
BeginsWithIdentifier (r ∷ rs) = (r.name ≡ names.Identifier) × (r.width ≡ 1)

-- no two rows have the same name
abbrev pub are_apart : List FieldRow → Bool
are_apart [] = true
are_apart (r ∷ rs) = list_all (λ (other : FieldRow). not (same_name r.name other.name)) rs && are_apart rs

-- there is a frequency assignment of one bit and more
abbrev pub has_fdra : List FieldRow → Bool
has_fdra rows = list_any (λ (r : FieldRow). same_name r.name names.Fdra && nat_lt 0 r.width) rows

-- no row has more than 32 bits
abbrev pub AreNarrow : List FieldRow → Type 0
AreNarrow [] = Unit {0}
AreNarrow (r ∷ rs) = (r.width ≤ 32) × AreNarrow rs

-- what each list of fields keeps
pub record IsFieldList (rows : List FieldRow) : Type 0 where
  pub few : length rows ≤ 32
  pub begins : BeginsWithIdentifier rows
  pub apart : are_apart rows ≡ true
  pub fdra : has_fdra rows ≡ true
  pub narrow : AreNarrow rows
