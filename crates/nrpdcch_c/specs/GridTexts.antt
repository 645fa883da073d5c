-- The text of a caller's grid, and the grid of a text, for a caller whose numbers and bytes may be out of range.
use Rattle.std.specs.Prelude.{◌≡◌, ℕ, ◌&&◌, Bool, cond, nat_le, nat_lt, List, Result, Ok, Err}
use Rattle.grid_file.specs.FoundGrid.{reading_of}
use Rattle.grid_file.specs.GridText.{grid_text}
use Rattle.slot_grid.specs.Grid.{GridValue, slots_in_frame}
use Rattle.nrpdcch_c.specs.declared.fault.NrpdcchFault.{NrpdcchFault}
use Rattle.nrpdcch_c.specs.declared.stop.Stop.{Stop}
use Rattle.nrpdcch_c.specs.declared.stop.Stop.TheVariants as stops
use Rattle.nrpdcch_c.specs.declared.texts.NrpdcchHead.{NrpdcchHead}
use Rattle.nrpdcch_c.specs.Faults.{fault_left}
use Rattle.nrpdcch_c.specs.Overlaid.{overlaid}
use Rattle.nrpdcch_c.specs.Points.{grid_in, places_of}
use Rattle.nrpdcch_c.specs.Spelling.{bytes_left}
use Rattle.nrpdcch_c.specs.Stops.{and_then, answer_number, count_left, fitting, value_left}

-- the numbers are those of a grid
abbrev pub are_in_range : ℕ → ℕ → ℕ → ℕ → Bool
are_in_range mu frame slot blocks =
    nat_le mu 3 && nat_le frame 1023 && nat_lt slot (slots_in_frame mu) && nat_le 6 blocks && nat_le blocks 275

-- the text of the grid of these numbers that bytes are, or the first cause against it: of the numbers, and then of the bytes
unfoldable pub text_in : ℕ → ℕ → ℕ → ℕ → List ℕ → Result (List ℕ) Stop
text_in mu frame slot blocks bytes =
    cond (are_in_range mu frame slot blocks)
    (and_then (grid_in mu frame slot blocks bytes) (λ grid. Ok (grid_text grid)))
    (Err stops.Argument)

-- the same where a buffer has room for it
abbrev pub text_wanted : ℕ → ℕ → ℕ → ℕ → List ℕ → ℕ → Result (List ℕ) Stop
text_wanted mu frame slot blocks bytes room = and_then (text_in mu frame slot blocks bytes) (fitting room)

-- what a call leaves of a buffer for a text: the text first, and then what stood there
abbrev pub text_left : Result (List ℕ) Stop → List ℕ → List ℕ
text_left (Ok text) old = overlaid text old
text_left (Err stop) old = old

-- what writing a text leaves, by its answer
pub record TextLeaves (number : ℕ) (text text-new : List ℕ) (written : ℕ) (answer : Result (List ℕ) Stop) : Type 0 where
  pub number_is : number ≡ answer_number answer
  pub text_is : text-new ≡ text_left answer text
  pub written_is : written ≡ count_left answer

-- the grid that is read, or the place where the bytes leave every grid's text
abbrev pub grid_or_left : Result GridValue ℕ → Result GridValue Stop
grid_or_left (Ok grid) = Ok grid
grid_or_left (Err at) = Err (stops.GridText at)

-- a grid that has room in a buffer of so many bytes
abbrev pub with_room : ℕ → GridValue → Result GridValue Stop
with_room room grid = cond (nat_le (places_of grid.blocks) room) (Ok grid) (Err (stops.Small (places_of grid.blocks)))

-- the grid whose text the bytes are, where a buffer has room for it
unfoldable pub read_wanted : List ℕ → ℕ → Result GridValue Stop
read_wanted bytes room = and_then (grid_or_left (reading_of bytes)) (with_room room)

-- the numbers of a grid
abbrev pub head_of : GridValue → NrpdcchHead
head_of grid = record { mu = grid.mu; frame = grid.frame; slot = grid.slot; blocks = grid.blocks }

-- what reading a grid leaves, by its answer
pub record ReadLeaves (number : ℕ) (grid grid-new : List ℕ) (head head-new : NrpdcchHead) (fault fault-new : NrpdcchFault)
    (answer : Result GridValue Stop) : Type 0 where
  pub number_is : number ≡ answer_number answer
  pub grid_is : grid-new ≡ bytes_left answer grid
  pub head_is : head-new ≡ value_left head_of answer head
  pub fault_is : fault-new ≡ fault_left answer fault
