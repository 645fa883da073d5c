-- Field values that are asked for: what each row has by them, and what may be wrong with them.
use Rattle.std.specs.Prelude.{◌≡◌, ℕ, ◌-◌, ◌^◌, ◌<◌, ◌≤◌, Bool, false, cond, not, ◌&&◌, List, Option, Some, None}
use Rattle.std.specs.Prelude.{length, map, slice_get, option_map, unwrap_or, find, IsTrue, Result, Ok, Err}
use Rattle.std.specs.List.{Contains, filter, last_or}
use Rattle.dci_fields.specs.declared.formats.Format.{Format}
use Rattle.dci_fields.specs.declared.formats.Format.TheVariants.{F10}
use Rattle.dci_fields.specs.declared.names.FieldName.{FieldName}
use Rattle.dci_fields.specs.declared.names.FieldName.TheVariants as names
use Rattle.dci_fields.specs.declared.fault.Given.{Given}
use Rattle.dci_fields.specs.declared.fault.FieldFault.{FieldFault}
use Rattle.dci_fields.specs.declared.fault.FieldFault.TheVariants.{Unknown, TooLarge, AllOnes}
use Rattle.dci_fields.specs.declared.rows.FieldRow.{FieldRow}
use Rattle.dci_fields.specs.Formats.{identifier_of}
use Rattle.dci_fields.specs.SameNames.{same_name}
use Rattle.dci_fields.specs.Payloads.{payload_of, is_fixed, is_all_ones}

-- whether a value is asked for by this name
abbrev pub is_for : FieldName → Option FieldName → Bool
is_for name None = false
is_for name (Some other) = same_name other name

-- the entries with a name
abbrev pub those_for : FieldName → List Given → List Given
those_for name given = filter (λ (g : Given). is_for name g.name) given

-- the values that are asked for by a name, in order
abbrev pub values_for : FieldName → List Given → List ℕ
values_for name given = map (λ (g : Given). g.value) (those_for name given)

-- the value of the last entry with a name, 0 where there is none
abbrev pub last_value : FieldName → List Given → ℕ
last_value name given = unwrap_or (last_or None (values_for name given)) 0

-- the value that a fixed row has: the format's identifier, and all ones
abbrev pub fixed_value : Format → FieldRow → ℕ
fixed_value format r = cond (same_name r.name names.Identifier) (identifier_of format) (2 ^ r.width - 1)

-- the value of a row: the fixed one, or that of the last entry with its name, or 0
abbrev pub settled_value : Format → List Given → FieldRow → ℕ
settled_value format given r = cond (is_fixed r.name format) (fixed_value format r) (last_value r.name given)

-- the values of all rows
abbrev pub settled : List FieldRow → Format → List Given → List ℕ
settled rows format given = map (settled_value format given) rows

-- the width of the row with a name, where there is one that is not fixed
abbrev pub open_width : List FieldRow → Format → FieldName → Option ℕ
open_width rows format name =
    option_map (λ (r : FieldRow). r.width) (find (λ (r : FieldRow). same_name r.name name && not (is_fixed r.name format)) rows)

-- the width that a value of this name must fit, None where it is of no field that one may choose
abbrev pub width_for : List FieldRow → Format → Option FieldName → Option ℕ
width_for rows format None = None
width_for rows format (Some name) = open_width rows format name

-- the value that is asked for at a place is of no field that one may choose
abbrev pub IsUnknown : List FieldRow → Format → List Given → ℕ → Type 0
IsUnknown rows format given at =
    (g : Given) × (slice_get given at ≡ Some g) × (width_for rows format g.name ≡ None)

-- the value that is asked for at a place does not fit the width of its field
abbrev pub IsTooLarge : List FieldRow → Format → List Given → ℕ → ℕ → Type 0
IsTooLarge rows format given at width =
    (g : Given) × (slice_get given at ≡ Some g) × (width_for rows format g.name ≡ Some width) × (2 ^ width ≤ g.value)

-- the values that are asked for before a place are of fields that one may choose, and fit them
abbrev pub AreKnownBelow : List FieldRow → Format → List Given → ℕ → Type 0
AreKnownBelow rows format given n =
    (at : ℕ) (g : Given) → at < n → slice_get given at ≡ Some g
    → (width : ℕ) × (width_for rows format g.name ≡ Some width) × (g.value < 2 ^ width)

-- all values that are asked for are of fields that one may choose, and fit them
abbrev pub AreKnown : List FieldRow → Format → List Given → Type 0
AreKnown rows format given = AreKnownBelow rows format given (length given)

-- what is wrong first: a value of no field, a value that is too large, or, where there is none of these, a frequency
-- assignment of all ones in format 1_0
abbrev pub IsFieldFault : List FieldRow → Format → List Given → FieldFault → Type 0
IsFieldFault rows format given (Unknown at) = IsUnknown rows format given at × AreKnownBelow rows format given at
IsFieldFault rows format given (TooLarge at width) =
    IsTooLarge rows format given at width × AreKnownBelow rows format given at
IsFieldFault rows format given AllOnes =
    AreKnown rows format given × (format ≡ F10)
    × ((r : FieldRow) × Contains rows r × (r.name ≡ names.Fdra) × IsTrue (is_all_ones r.width (last_value names.Fdra given)))

-- the payload of the values that are asked for: each is known, and the settled values of all rows have it
pub record IsPayloadOf (rows : List FieldRow) (format : Format) (given : List Given) (size : ℕ) (payload : List Bool) : Type
    0 where
  pub known : AreKnown rows format given
  pub packs : payload_of rows format (settled rows format given) size ≡ Some payload

-- the answer is the payload, or what is wrong first
abbrev pub IsPacked : List FieldRow → Format → List Given → ℕ → Result (List Bool) FieldFault → Type 0
IsPacked rows format given size (Ok payload) = IsPayloadOf rows format given size payload
IsPacked rows format given size (Err fault) = IsFieldFault rows format given fault
