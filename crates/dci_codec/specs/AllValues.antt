-- Every list of values that the rows of a format can have.
use Rattle.std.specs.Prelude.{ℕ, ◌^◌, List, [], ◌∷◌, map}
use Rattle.std.specs.List.{range_with_len, flat_map}
use Rattle.dci_fields.specs.declared.rows.FieldRow.{FieldRow}

-- one value for each row, which its width can hold
unfoldable pub all_values : List FieldRow → List (List ℕ)
all_values [] = [] ∷ []
all_values (r ∷ rs) = flat_map (λ v. map (λ vs. v ∷ vs) (all_values rs)) (range_with_len 0 (2 ^ r.width))
