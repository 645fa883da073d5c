-- The reading of a grid as a function of its bytes: a name for the one answer, so that what a run is to leave can be a function
-- of its files. It is never computed. It searches the grids that the bytes place, one for each list of numbers that a grid can
-- have, for the one whose text they are; `ReadsExactly` says the same in the words of the text.
use Rattle.std.specs.Prelude.{◌≡◌, ◌↔◌, ℕ, ◌+◌, ◌==◌, List, map, length, max, slice_index, Option, Result, Ok, Err}
use Rattle.std.specs.List.{range_with_len, flat_map, find, fold, common_prefix_len}
use Rattle.std.specs.Option.{ok_or}
use Rattle.std.specs.Str.{bytes_eq}
use Rattle.slot_grid.specs.Grid.{GridValue, slots_in_frame}
use Rattle.slot_grid.specs.Image.{blank_grid, overwritten}
use Rattle.grid_file.specs.declared.fault.GridError.{GridError}
use Rattle.grid_file.specs.declared.fault.GridError.TheVariants.{Fault, NoMemory}
use Rattle.grid_file.specs.Bytes.{point_of}
use Rattle.grid_file.specs.GridText.{grid_head, grid_text, place_in_lines, IsGridText, IsTextOf}
use Rattle.grid_file.specs.LeavingPlace.{LeavesAt}
use Rattle.grid_file.specs.Ranges.{past_numerologies, past_frames, least_blocks, block_counts}

-- the grids of a slot with no point at any place, of `sizes` numbers of blocks
abbrev pub blanks_of_slot : ℕ → ℕ → ℕ → ℕ → List GridValue
blanks_of_slot sizes mu frame slot = map (λ blocks. blank_grid mu frame slot blocks) (range_with_len least_blocks sizes)

-- those of each slot of a frame
abbrev pub blanks_of_frame : ℕ → ℕ → ℕ → List GridValue
blanks_of_frame sizes mu frame = flat_map (blanks_of_slot sizes mu frame) (range_with_len 0 (slots_in_frame mu))

-- those of each frame below a number
abbrev pub blanks_of_numerology : ℕ → ℕ → ℕ → List GridValue
blanks_of_numerology frames sizes mu = flat_map (blanks_of_frame sizes mu) (range_with_len 0 frames)

-- those of each numerology below a number
unfoldable pub blanks_below : ℕ → ℕ → ℕ → List GridValue
blanks_below numerologies frames sizes = flat_map (blanks_of_numerology frames sizes) (range_with_len 0 numerologies)

-- every grid with no point at any place
unfoldable pub blank_grids : List GridValue
blank_grids = blanks_below past_numerologies past_frames block_counts

-- where the character of a symbol and a subcarrier stands in the text of a grid of these numbers
abbrev pub place_in_text : GridValue → ℕ → ℕ → ℕ
place_in_text grid symbol subcarrier =
    length (grid_head grid.mu grid.frame grid.slot grid.blocks) + place_in_lines grid.blocks symbol subcarrier

-- the blank grid with the point of its character at each place; a character that stands for no point leaves the place empty
unfoldable pub placed : List ℕ → GridValue → GridValue
placed bytes blank = overwritten (λ s c. point_of (slice_index bytes (place_in_text blank s c))) blank

-- the grids that the bytes place
unfoldable pub placed_grids : List ℕ → List GridValue
placed_grids bytes = map (placed bytes) blank_grids

-- the grid whose text the bytes are, where there is one
unfoldable pub grid_found : List ℕ → Option GridValue
grid_found bytes = find (λ grid. bytes_eq (grid_text grid) bytes) (placed_grids bytes)

-- how many first bytes are those of some grid's text: the most that one of them shares
unfoldable pub leaving_place : List ℕ → ℕ
leaving_place bytes = fold max 0 (map (λ grid. common_prefix_len ◌==◌ (grid_text grid) bytes) (placed_grids bytes))

-- the grid whose text the bytes are, or the place where they leave every grid's text
unfoldable pub reading_of : List ℕ → Result GridValue ℕ
reading_of bytes = ok_or (grid_found bytes) (leaving_place bytes)

-- the answer is what the reading gives; want of memory is free
abbrev pub IsReading : Result GridValue ℕ → Result GridValue GridError → Type 0
IsReading reading (Ok grid) = reading ≡ Ok grid
IsReading reading (Err (Fault fault)) = reading ≡ Err fault.at
IsReading reading (Err NoMemory) = Unit {0}

-- the reading gives a grid exactly where the bytes are its text, and a place exactly where they leave every grid's text there
pub record ReadsExactly : Type 0 where
  pub text : (bytes : List ℕ) (grid : GridValue) → (reading_of bytes ≡ Ok grid) ↔ IsTextOf grid bytes
  pub no_text : (bytes : List ℕ) (at : ℕ) → (reading_of bytes ≡ Err at) ↔ LeavesAt IsGridText bytes at
