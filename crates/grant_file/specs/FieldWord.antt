-- The word that names a field in a grant: 1 to 24 bytes of `a` to `z`, `0` to `9` and `_`.
use Rattle.std.specs.Prelude.{ℕ, Bool, List, length, nat_eq, ◌&&◌, ◌||◌}
use Rattle.std.specs.List.{list_all}
use Rattle.rrc_settings.specs.Numbers.{is_from_to}

-- a digit, a small ASCII letter or `_`
abbrev pub is_word_byte : ℕ → Bool
is_word_byte b = is_from_to 48 57 b || is_from_to 97 122 b || nat_eq b 95

-- 1 to 24 such bytes
abbrev pub is_field_word : List ℕ → Bool
is_field_word bytes = is_from_to 1 24 (length bytes) && list_all is_word_byte bytes
