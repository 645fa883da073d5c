-- A grid's text has at most 65,536 bytes.
use Rattle.std.proofs.Common.{◌≡◌, ℕ, ◌+◌, ◌*◌, ◌<◌, ◌≤◌, List, ◌++◌, codes, length, ◌∙◌, ap, arith, length-append}
use Rattle.std.specs.Fmt.{decimal}
use Rattle.std.proofs.lemmas.Fmt.{length-decimal-le}
use Rattle.slot_grid.specs.Grid.{GridValue, IsGrid}
use Rattle.slot_grid.proofs.Slots.{slot_small}
use Rattle.grid_file.specs.GridText.{grid_text}
use Rattle.grid_file.proofs.GridTexts.{rest_text, rest_fits}
use Rattle.grid_file.proofs.HeadTexts.{text_joined}
use Rattle.grid_file.proofs.RestTexts.{length-rest_pattern}

-- a word and a number below 10,000 before a text
field_size : (word : List ℕ) (n : ℕ) (text : List ℕ) → n < 10000
    → length (word ++ decimal n ++ text) ≤ length word + 4 + length text
field_size word n text h =
    omega (
      arith,
      length-append (word ++ decimal n) text,
      length-append word (decimal n),
      length-decimal-le 4 n
          (omega arith) h (omega arith),
    )

-- what follows the numbers
rest_size : (grid : GridValue) → length (rest_text grid) ≡ 1 + 14 * (12 * grid.blocks + 1) + 4
rest_size grid = (rest_fits grid).size ∙ length-rest_pattern grid.blocks

-- the text fits into 65,536 bytes
pub text_fits : (grid : GridValue) → IsGrid grid → length (grid_text grid) ≤ 65536
text_fits grid legal =
    let with_blocks = codes " blocks " ++ decimal grid.blocks ++ rest_text grid in
    let with_slot = codes " slot " ++ decimal grid.slot ++ with_blocks in
    let with_frame = codes " frame " ++ decimal grid.frame ++ with_slot in
    let whole = field_size (codes "nrpdcch grid 1\nmu ") grid.mu with_frame (omega (arith, legal.mu_most)) in
    let frame = field_size (codes " frame ") grid.frame with_slot (omega (arith, legal.frame_most)) in
    let slot = field_size (codes " slot ") grid.slot with_blocks
    (omega (arith, slot_small grid.mu grid.slot legal.mu_most legal.slot_below)) in
    let blocks = field_size (codes " blocks ") grid.blocks (rest_text grid) (omega (arith, legal.blocks_most)) in
    omega (arith, ap length (text_joined grid), whole, frame, slot, blocks, rest_size grid, legal.blocks_most)
