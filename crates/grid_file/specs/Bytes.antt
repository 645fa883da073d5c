-- The characters of the text: digits, and points.
use Rattle.std.specs.Prelude.{ℕ, ◌-◌, ◌≤◌, ◌==◌, nat_le, ◌&&◌, cond, Option, Some, None}
use Rattle.slot_grid.specs.declared.places.Point.{Point}
use Rattle.slot_grid.specs.declared.places.Point.TheVariants.{Empty, P00, P01, P10, P11}

-- the character of a point
abbrev pub point_byte : Point → ℕ
point_byte Empty = 46
point_byte P00 = 48
point_byte P01 = 49
point_byte P10 = 50
point_byte P11 = 51

-- the point that a character stands for
abbrev pub point_of : ℕ → Option Point
point_of byte =
    cond (byte == 46) (Some Empty)
    (cond (byte == 48) (Some P00)
    (cond (byte == 49) (Some P01) (cond (byte == 50) (Some P10) (cond (byte == 51) (Some P11) None))))

-- a byte is a decimal digit
abbrev pub IsDigit : ℕ → Type 0
IsDigit byte = (48 ≤ byte) × (byte ≤ 57)

-- the number that a digit stands for
abbrev pub digit_of : ℕ → Option ℕ
digit_of byte = cond (nat_le 48 byte && nat_le byte 57) (Some (byte - 48)) None
