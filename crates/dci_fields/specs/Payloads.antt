-- The payload of field values (3GPP TS 38.212, 7.3.1): any list of rows, one value for each.
-- Each row has a value, the fixed rows too: theirs is the one value that the format lets them have. So the values are read
-- off a payload, and at most one list of values has it.
use Rattle.std.specs.Prelude.{◌≡◌, ℕ, ◌+◌, ◌-◌, ◌^◌, Bool, true, false, cond, not, ◌&&◌, ◌||◌, nat_eq, nat_lt, List, []}
use Rattle.std.specs.Prelude.{◌∷◌, ◌++◌, Option, Some, None, replicate}
use Rattle.std.specs.List.{list_all, flat_map, zip}
use Rattle.bits_core.specs.Bits.{bits_of}
use Rattle.dci_fields.specs.declared.formats.Format.{Format}
use Rattle.dci_fields.specs.declared.formats.Format.TheVariants.{F00, F10, Order, F01, F11}
use Rattle.dci_fields.specs.declared.names.FieldName.{FieldName}
use Rattle.dci_fields.specs.declared.names.FieldName.TheVariants as names
use Rattle.dci_fields.specs.declared.rows.FieldRow.{FieldRow}
use Rattle.dci_fields.specs.declared.values.FieldValue.{FieldValue}
use Rattle.dci_fields.specs.Formats.{identifier_of}
use Rattle.dci_fields.specs.FieldLists.{width_of}

-- each row has one value, which its width can hold
abbrev pub are_fitting : List FieldRow → List ℕ → Bool
are_fitting [] [] = true
are_fitting [] (v ∷ vs) = false
are_fitting (r ∷ rs) [] = false
are_fitting (r ∷ rs) (v ∷ vs) = nat_lt v (2 ^ r.width) && are_fitting rs vs

-- a value of all ones
abbrev pub is_all_ones : ℕ → ℕ → Bool
is_all_ones width value = nat_eq (value + 1) (2 ^ width)

-- the frequency assignment is all ones in an order, and never in format 1_0
abbrev pub is_allowed_fdra : Format → ℕ → ℕ → Bool
is_allowed_fdra F00 width value = true
is_allowed_fdra F10 width value = not (is_all_ones width value)
is_allowed_fdra Order width value = is_all_ones width value
is_allowed_fdra F01 width value = true
is_allowed_fdra F11 width value = true

-- the identifier is the format's
abbrev pub is_allowed : FieldName → Format → ℕ → ℕ → Bool
is_allowed names.Identifier format width value = nat_eq value (identifier_of format)
is_allowed names.Fdra format width value = is_allowed_fdra format width value
is_allowed _ format width value = true

-- the format allows each row its value
abbrev pub are_allowed : List FieldRow → Format → List ℕ → Bool
are_allowed rows format values =
    list_all (λ (p : FieldRow × ℕ). is_allowed p.0.name format p.0.width p.1) (zip rows values)

-- the values in their widths, most significant bit first, joined
abbrev pub joined : List FieldRow → List ℕ → List Bool
joined rows values = flat_map (λ (p : FieldRow × ℕ). bits_of p.0.width p.1) (zip rows values)

-- the payload of `size` bits: the joined values, then zeros. There is one where each value fits and is allowed
unfoldable pub payload_of : List FieldRow → Format → List ℕ → ℕ → Option (List Bool)
payload_of rows format values size =
    cond (are_fitting rows values && are_allowed rows format values)
    (Some (joined rows values ++ replicate (size - width_of rows) false)) None

-- whether a format fixes its frequency assignment
abbrev pub fixes_fdra : Format → Bool
fixes_fdra F00 = false
fixes_fdra F10 = false
fixes_fdra Order = true
fixes_fdra F01 = false
fixes_fdra F11 = false

-- a row that can have only one value: the identifier, and the frequency assignment of an order
abbrev pub is_fixed : FieldName → Format → Bool
is_fixed names.Identifier format = true
is_fixed names.Fdra format = fixes_fdra format
is_fixed _ format = false

-- the value of a row by its name, where the row has bits and is not fixed
abbrev pub shown_of : Format → FieldRow → ℕ → List FieldValue
shown_of format r value =
    cond (nat_eq r.width 0 || is_fixed r.name format) [] (record { name = r.name; value = value } ∷ [])

-- the values that are shown, in order
abbrev pub shown : List FieldRow → Format → List ℕ → List FieldValue
shown rows format values = flat_map (λ (p : FieldRow × ℕ). shown_of format p.0 p.1) (zip rows values)

-- a payload carries these field values: it is the payload of a list of values of which these are shown
pub record Carries (rows : List FieldRow) (format : Format) (size : ℕ) (payload : List Bool)
    (fields : List FieldValue) : Type 0 where
  pub values : List ℕ
  pub packs : payload_of rows format values size ≡ Some payload
  pub shows : shown rows format values ≡ fields
