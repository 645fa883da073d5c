-- The text of a grid: one line for its kind, one with its numbers, one for each symbol, and the end.
use Rattle.std.specs.Prelude.{◌≡◌, ℕ, ◌+◌, ◌*◌, List, [], ◌∷◌, ◌++◌, map, codes}
use Rattle.std.specs.List.{range_with_len, flat_map}
use Rattle.std.specs.Fmt.{decimal}
use Rattle.slot_grid.specs.Grid.{GridValue, IsGrid, point_at}
use Rattle.grid_file.specs.Bytes.{point_byte}

-- the first two lines
unfoldable pub grid_head : ℕ → ℕ → ℕ → ℕ → List ℕ
grid_head mu frame slot blocks =
    codes "nrpdcch grid 1\nmu " ++ decimal mu ++ codes " frame " ++ decimal frame ++ codes " slot " ++ decimal slot
    ++ codes " blocks " ++ decimal blocks ++ 10 ∷ []

-- the line of a symbol: its points by rising subcarrier
unfoldable pub symbol_line : GridValue → ℕ → List ℕ
symbol_line grid symbol = map (λ c. point_byte (point_at grid symbol c)) (range_with_len 0 (12 * grid.blocks)) ++ 10 ∷ []

-- where the character of a symbol and a subcarrier stands in the lines of a grid with this many blocks: behind those of the
-- symbols before
abbrev pub place_in_lines : ℕ → ℕ → ℕ → ℕ
place_in_lines blocks symbol subcarrier = symbol * (12 * blocks + 1) + subcarrier

-- the text
unfoldable pub grid_text : GridValue → List ℕ
grid_text grid =
    grid_head grid.mu grid.frame grid.slot grid.blocks ++ flat_map (symbol_line grid) (range_with_len 0 14) ++ codes "end\n"

-- the bytes are the text of this grid
pub record IsTextOf (grid : GridValue) (bytes : List ℕ) : Type 0 where
  pub legal : IsGrid grid
  pub text : grid_text grid ≡ bytes

-- the bytes are the text of a grid
abbrev pub IsGridText : List ℕ → Type 0
IsGridText bytes = (grid : GridValue) × IsTextOf grid bytes

-- two grids of one text are one grid
abbrev pub OneGridOfText : Type 0
OneGridOfText = (a b : GridValue) → IsGrid a → IsGrid b → grid_text a ≡ grid_text b → a ≡ b
