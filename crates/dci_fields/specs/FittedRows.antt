-- Rows that are cut to a size, and the rows of a PDCCH order (3GPP TS 38.212, 7.3.1.0 and 7.3.1.2.1).
use Rattle.std.specs.Prelude.{◌≡◌, ℕ, ◌+◌, ◌-◌, ◌≤◌, cond, List, [], ◌∷◌, ◌++◌, map, take, find, unwrap_or, option_map}
use Rattle.dci_fields.specs.declared.names.FieldName.TheVariants as names
use Rattle.dci_fields.specs.declared.rows.FieldRow.{FieldRow}
use Rattle.dci_fields.specs.SameNames.{same_name}
use Rattle.dci_fields.specs.FieldLists.{width_of}
use Rattle.dci_fields.specs.FormatRows.{row, rows_after_order}

-- how many bits the rows have beyond a size
abbrev pub excess : List FieldRow → ℕ → ℕ
excess rows size = width_of rows - size

-- the width of the frequency assignment
abbrev pub fdra_of : List FieldRow → ℕ
fdra_of rows = unwrap_or (option_map (λ (r : FieldRow). r.width) (find (λ (r : FieldRow). same_name r.name names.Fdra) rows)) 0

-- a row, of which the frequency assignment has so many bits fewer
abbrev pub cut_row : ℕ → FieldRow → FieldRow
cut_row bits r = cond (same_name r.name names.Fdra) (row r.name (r.width - bits)) r

-- the rows with the excess taken from the frequency assignment
abbrev pub fitted : List FieldRow → ℕ → List FieldRow
fitted rows size = map (cut_row (excess rows size)) rows

-- the second row is the frequency assignment
abbrev pub HasFdraSecond : List FieldRow → Type 0
HasFdraSecond [] = ⊥
HasFdraSecond (first ∷ []) = ⊥
HasFdraSecond (first ∷ second ∷ rest) = second.name ≡ names.Fdra

-- the first two rows, and what follows them in an order
abbrev pub order_of : List FieldRow → List FieldRow
order_of rows = take 2 rows ++ rows_after_order

-- a list of fields begins with the identifier and the frequency assignment, which leave room for 27 bits: those of an order
abbrev pub HasRoomForOrder : ℕ → List FieldRow → Type 0
HasRoomForOrder size [] = ⊥
HasRoomForOrder size (first ∷ []) = ⊥
HasRoomForOrder size (first ∷ second ∷ rest) =
    (first.name ≡ names.Identifier) × (second.name ≡ names.Fdra) × (first.width + second.width + 27 ≤ size)
