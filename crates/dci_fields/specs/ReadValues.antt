-- The values of a payload's rows: what the bits of each spell.
use Rattle.std.specs.Prelude.{ℕ, Bool, List, [], ◌∷◌, take, drop}
use Rattle.bits_core.specs.Bits.{number_of}
use Rattle.dci_fields.specs.declared.rows.FieldRow.{FieldRow}

-- the number that each row spells
abbrev pub values_in : List FieldRow → List Bool → List ℕ
values_in [] bits = []
values_in (r ∷ rs) bits = number_of (take r.width bits) ∷ values_in rs (drop r.width bits)
