-- What is wrong first with field values that are asked for, as a function.
use Rattle.std.specs.Prelude.{◌≡◌, ◌↔◌, ℕ, ◌+◌, ◌^◌, Bool, false, cond, ◌&&◌, nat_lt, List, [], ◌∷◌, Option, Some, None}
use Rattle.std.specs.List.{list_any}
use Rattle.std.specs.Option.{option_or}
use Rattle.dci_fields.specs.declared.formats.Format.{Format}
use Rattle.dci_fields.specs.declared.formats.Format.TheVariants.{F10}
use Rattle.dci_fields.specs.declared.names.FieldName.TheVariants as names
use Rattle.dci_fields.specs.declared.fault.Given.{Given}
use Rattle.dci_fields.specs.declared.fault.FieldFault.{FieldFault}
use Rattle.dci_fields.specs.declared.fault.FieldFault.TheVariants.{Unknown, TooLarge, AllOnes}
use Rattle.dci_fields.specs.declared.rows.FieldRow.{FieldRow}
use Rattle.dci_fields.specs.SameNames.{same_name}
use Rattle.dci_fields.specs.Payloads.{is_all_ones}
use Rattle.dci_fields.specs.GivenValues.{last_value, width_for, IsFieldFault}

-- what is wrong with the value at a place, by the width that it must fit: it is of no field that one may choose, or too large
abbrev pub fault_by : ℕ → ℕ → Option ℕ → Option FieldFault
fault_by at value None = Some (Unknown at)
fault_by at value (Some width) = cond (nat_lt value (2 ^ width)) None (Some (TooLarge at width))

-- the first fault among the values from a place on
abbrev pub fault_from : List FieldRow → Format → ℕ → List Given → Option FieldFault
fault_from rows format at [] = None
fault_from rows format at (g ∷ gs) =
    option_or (fault_by at g.value (width_for rows format g.name)) (fault_from rows format (at + 1) gs)

-- a row is the frequency assignment, and the value that is asked for there is all ones
abbrev pub is_all_ones_fdra : List Given → FieldRow → Bool
is_all_ones_fdra given r = same_name r.name names.Fdra && is_all_ones r.width (last_value names.Fdra given)

-- a frequency assignment of all ones is asked for in format 1_0, which would be an order
abbrev pub asks_for_order : List FieldRow → Format → List Given → Bool
asks_for_order rows F10 given = list_any (is_all_ones_fdra given) rows
asks_for_order rows _ given = false

-- what is wrong first: with a value, from the front, and after all of them with the frequency assignment of format 1_0
unfoldable pub field_fault : List FieldRow → Format → List Given → Option FieldFault
field_fault rows format given =
    option_or (fault_from rows format 0 given) (cond (asks_for_order rows format given) (Some AllOnes) None)

-- the function finds a fault exactly where that is what is wrong first
abbrev pub FindsFieldFault : Type 0
FindsFieldFault =
    (rows : List FieldRow) (format : Format) (given : List Given) (fault : FieldFault) →
    (field_fault rows format given ≡ Some fault) ↔ IsFieldFault rows format given fault
