-- Of the code, not of the format: how far its readers have come in a text.
use Rattle.std.specs.Prelude.{◌≡◌, ℕ, ◌+◌, ◌-◌, ◌*◌, ◌<◌, ◌≤◌, Some, List, drop, slice_index, codes}
use Rattle.slot_grid.specs.Grid.{GridValue, point_at, slots_in_frame}
use Rattle.grid_file.specs.declared.head.Head.{Head}
use Rattle.grid_file.specs.declared.numbers.Number.{Number}
use Rattle.grid_file.specs.Bytes.{point_of}
use Rattle.grid_file.specs.Fields.{IsField}
use Rattle.grid_file.specs.GridText.{place_in_lines}
use Rattle.grid_file.specs.LeavingPlace.{LeavesAt}
use Rattle.grid_file.specs.Patterns.{Fits, FitsBefore, rest_pattern}
use Rattle.grid_file.specs.Ranges.{past_numerologies, past_frames, least_blocks, past_blocks}

-- the numerology was read from place `at` on, with the word before it
abbrev pub ReadsMu : List ℕ → ℕ → Number → Type 0
ReadsMu bytes at n = IsField (codes "nrpdcch grid 1\nmu ") bytes at 0 past_numerologies n.value n.next

-- so was the frame
abbrev pub ReadsFrame : List ℕ → ℕ → Number → Type 0
ReadsFrame bytes at n = IsField (codes " frame ") bytes at 0 past_frames n.value n.next

-- so was the slot, of a frame of this numerology
abbrev pub ReadsSlot : ℕ → List ℕ → ℕ → Number → Type 0
ReadsSlot mu bytes at n = IsField (codes " slot ") bytes at 0 (slots_in_frame mu) n.value n.next

-- so was the number of resource blocks
abbrev pub ReadsBlocks : List ℕ → ℕ → Number → Type 0
ReadsBlocks bytes at n = IsField (codes " blocks ") bytes at least_blocks past_blocks n.value n.next

-- the text begins with these numbers, each where the one before it ends
pub record IsHead (bytes : List ℕ) (head : Head) : Type 0 where
  pub mu_read : ReadsMu bytes 0 head.mu
  pub frame_read : ReadsFrame bytes head.mu.next head.frame
  pub slot_read : ReadsSlot head.mu.value bytes head.frame.next head.slot
  pub blocks_read : ReadsBlocks bytes head.slot.next head.blocks

-- where the character of a symbol and a subcarrier stands after the numbers, which a line feed follows
abbrev pub place_of : ℕ → ℕ → ℕ → ℕ
place_of blocks symbol subcarrier = 1 + place_in_lines blocks symbol subcarrier

-- the points of the places before a symbol and a subcarrier stand on the grid, and the bytes fit the pattern so far
pub record IsPlacedTo (bytes : List ℕ) (blocks symbol subcarrier : ℕ) (grid : GridValue) : Type 0 where
  pub blocks_are : grid.blocks ≡ blocks
  pub fit : FitsBefore (rest_pattern blocks) bytes (place_of blocks symbol subcarrier)
  pub there : (s c : ℕ) → c < 12 * blocks → s * (12 * blocks) + c < symbol * (12 * blocks) + subcarrier
      → point_of (slice_index bytes (place_of blocks s c)) ≡ Some (point_at grid s c)

-- the bytes are what follows the numbers in the text of a grid with this many blocks, and its points stand on the grid
pub record IsPlaced (bytes : List ℕ) (blocks : ℕ) (grid : GridValue) : Type 0 where
  pub fit : Fits (rest_pattern blocks) bytes
  pub there : (s c : ℕ) → s < 14 → c < 12 * blocks → point_of (slice_index bytes (place_of blocks s c)) ≡ Some (point_at grid s c)

-- the bytes from `start` on leave the pattern at `place`
pub record LeavesPattern (blocks : ℕ) (bytes : List ℕ) (start place : ℕ) : Type 0 where
  pub least : start ≤ place
  pub leaves : LeavesAt (Fits (rest_pattern blocks)) (drop start bytes) (place - start)
