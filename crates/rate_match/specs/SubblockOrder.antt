-- The order in which the bits of a word are sent: its 32 sub-blocks in a fixed order (3GPP TS 38.212, 5.4.1.1).
use Rattle.std.specs.Prelude.{ℕ, ◌+◌, ◌*◌, ◌/◌, ◌%◌, List, [], ◌∷◌, slice_index}

-- which sub-block of the word is sent at each turn
abbrev pub subblock_order : List ℕ
subblock_order =
    0 ∷ 1 ∷ 2 ∷ 4 ∷ 3 ∷ 5 ∷ 6 ∷ 7 ∷ 8 ∷ 16 ∷ 9 ∷ 17 ∷ 10 ∷ 18 ∷ 11 ∷ 19
    ∷ 12 ∷ 20 ∷ 13 ∷ 21 ∷ 14 ∷ 22 ∷ 15 ∷ 23 ∷ 24 ∷ 25 ∷ 26 ∷ 28 ∷ 27 ∷ 29 ∷ 30 ∷ 31 ∷ []

-- the position in a word of n bits that is sent at place m, for m below n
unfoldable pub position_at : ℕ → ℕ → ℕ
position_at n m = slice_index subblock_order (32 * m / n) * (n / 32) + m % (n / 32)
