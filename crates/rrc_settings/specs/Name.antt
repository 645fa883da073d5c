-- The name of a handset: 1 to 16 ASCII letters, digits or `_`.
use Rattle.std.specs.Prelude.{ℕ, Bool, List, length, nat_eq, ◌&&◌, ◌||◌}
use Rattle.std.specs.List.{list_all}
use Rattle.rrc_settings.specs.Numbers.{is_from_to}

-- an ASCII letter, a digit or `_`
abbrev pub is_name_byte : ℕ → Bool
is_name_byte b = is_from_to 48 57 b || is_from_to 65 90 b || is_from_to 97 122 b || nat_eq b 95

-- 1 to 16 such bytes
abbrev pub is_name : List ℕ → Bool
is_name bytes = is_from_to 1 16 (length bytes) && list_all is_name_byte bytes
