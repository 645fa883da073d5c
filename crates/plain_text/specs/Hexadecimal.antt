-- Numbers in hexadecimal digits.
use Rattle.std.specs.Prelude.{ℕ, ◌+◌, ◌/◌, ◌%◌, cond, ltb, List, [], ◌∷◌}

-- the character of a digit from 0 to 15, in lower case
abbrev pub hex_digit : ℕ → ℕ
hex_digit n = cond (ltb n 10) (48 + n) (87 + n)

-- a number of 16 bits in four hexadecimal digits
unfoldable pub hex_word : ℕ → List ℕ
hex_word n = hex_digit (n / 4096) ∷ hex_digit (n / 256 % 16) ∷ hex_digit (n / 16 % 16) ∷ hex_digit (n % 16) ∷ []
