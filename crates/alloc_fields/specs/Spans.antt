-- A start and a length have one resource indication value, and a value is of one start and length.
use Rattle.std.specs.Prelude.{◌≡◌, ℕ, ◌≤◌, Some}
use Rattle.alloc_fields.specs.Indication.{riv}

-- in a bandwidth part of 1 to 275 blocks no two spans have the same value
abbrev pub ValuesApart : Type 0
ValuesApart = (n start len other_start other_len value : ℕ) → 1 ≤ n → n ≤ 275 → riv n start len ≡ Some value
    → riv n other_start other_len ≡ Some value → (start ≡ other_start) × (len ≡ other_len)
