-- The head of a text, number by number: where the bytes leave what may follow, they leave every grid's text.
use Rattle.std.proofs.Common.{◌≡◌, ℕ, ◌-◌, ◌%◌, ◌≤◌, List, ◌++◌, codes, drop, sym, ◌∙◌, ap, subst, arith}
use Rattle.std.specs.Fmt.{decimal}
use Rattle.std.proofs.Math.Nat.{sub-zero, pow-le-pow_right}
use Rattle.slot_grid.specs.Grid.{GridValue, slots_in_frame}
use Rattle.grid_file.specs.declared.head.Head.{Head}
use Rattle.grid_file.specs.declared.numbers.Number.{Number}
use Rattle.grid_file.specs.Fields.{LeavesFieldAt}
use Rattle.grid_file.specs.GridText.{grid_text, IsGridText}
use Rattle.grid_file.specs.LeavingPlace.{LeavesAt}
use Rattle.grid_file.specs.Ranges.{past_numerologies, past_frames, least_blocks, past_blocks}
use Rattle.grid_file.specs.Reading.{IsHead, ReadsMu, ReadsFrame, ReadsSlot}
use Rattle.grid_file.proofs.Leaving.{leaves_same}
use Rattle.grid_file.proofs.FieldTexts.{leaves_field_at, leaves_after_field_at}
use Rattle.grid_file.proofs.HeadTexts.{AfterMu, AfterFrame, AfterSlot, AfterBlocks, InFields}
use Rattle.grid_file.proofs.HeadTexts.{may_frame, may_slot, may_blocks, may_rest}
use Rattle.grid_file.proofs.HeadTexts.{in_fields, from_fields, numbers_before, text_joined}
use Rattle.grid_file.proofs.GridTexts.{rest_text}

-- the texts of grids are those in fields
leaves_whole : (bytes : List ℕ) (place : ℕ) → LeavesAt InFields bytes (place - 0) → LeavesAt IsGridText bytes place
leaves_whole bytes place leaves =
    leaves_same IsGridText InFields bytes place from_fields in_fields (subst (LeavesAt InFields bytes) (sub-zero place) leaves)

-- a frame has at most 80 slots
pub slots_le : (mu : ℕ) → mu ≤ 3 → slots_in_frame mu ≤ 80
slots_le mu h = omega (arith, pow-le-pow_right {n = 2} (omega arith) {i = mu} {j = 3} h)

-- their number fits 16 bits
pub slots_no_wrap : (mu : ℕ) → mu ≤ 3 → slots_in_frame mu % 65536 ≡ slots_in_frame mu
slots_no_wrap mu h = omega (arith, pow-le-pow_right {n = 2} (omega arith) {i = mu} {j = 3} h)

-- the bytes leave every grid's text behind the numerology
leaves_after_mu : (bytes : List ℕ) (mu : Number) (place : ℕ) → ReadsMu bytes 0 mu → mu.next ≤ place
    → LeavesAt (AfterMu mu.value) (drop mu.next bytes) (place - mu.next) → LeavesAt IsGridText bytes place
leaves_after_mu bytes mu place read far leaves =
    leaves_whole bytes place
    (leaves_after_field_at (codes "nrpdcch grid 1\nmu ") 0 past_numerologies AfterMu bytes 0 mu.value mu.next place
    (omega arith) may_frame
    read far leaves)

-- or behind the frame
leaves_after_frame : (bytes : List ℕ) (mu frame : Number) (place : ℕ) → ReadsMu bytes 0 mu → ReadsFrame bytes mu.next frame
    → frame.next ≤ place → LeavesAt (AfterFrame mu.value frame.value) (drop frame.next bytes) (place - frame.next)
    → LeavesAt IsGridText bytes place
leaves_after_frame bytes mu frame place mu_read read far leaves =
    leaves_after_mu bytes mu place mu_read (omega (arith, read.far))
    (leaves_after_field_at (codes " frame ") 0 past_frames (AfterFrame mu.value) bytes mu.next frame.value frame.next place
    (omega arith)
    (may_slot mu.value 0 past_frames) read far leaves)

-- or behind the slot
leaves_after_slot : (bytes : List ℕ) (mu frame slot : Number) (place : ℕ) → ReadsMu bytes 0 mu → ReadsFrame bytes mu.next frame
    → ReadsSlot mu.value bytes frame.next slot → slot.next ≤ place
    → LeavesAt (AfterSlot slot.value) (drop slot.next bytes) (place - slot.next) → LeavesAt IsGridText bytes place
leaves_after_slot bytes mu frame slot place mu_read frame_read read far leaves =
    let slots = slots_in_frame mu.value in
    leaves_after_frame bytes mu frame place mu_read frame_read (omega (arith, read.far))
    (leaves_after_field_at (codes " slot ") 0 slots AfterSlot bytes frame.next slot.value slot.next place
    (omega (arith, slots_le mu.value (omega (arith, mu_read.high)))) (may_blocks 0 slots) read far leaves)

-- the bytes leave every grid's text within the numerology
pub leaves_in_mu : (bytes : List ℕ) (place : ℕ) → LeavesFieldAt (codes "nrpdcch grid 1\nmu ") 0 past_numerologies bytes 0 place
    → LeavesAt IsGridText bytes place
leaves_in_mu bytes place leaves =
    leaves_whole bytes place
    (leaves_field_at (codes "nrpdcch grid 1\nmu ") 0 past_numerologies AfterMu bytes 0 place may_frame leaves)

-- or within the frame
pub leaves_in_frame : (bytes : List ℕ) (mu : Number) (place : ℕ) → ReadsMu bytes 0 mu
    → LeavesFieldAt (codes " frame ") 0 past_frames bytes mu.next place → LeavesAt IsGridText bytes place
leaves_in_frame bytes mu place read leaves =
    leaves_after_mu bytes mu place read leaves.least_place
    (leaves_field_at (codes " frame ") 0 past_frames (AfterFrame mu.value) bytes mu.next place
    (may_slot mu.value 0 past_frames) leaves)

-- or within the slot
pub leaves_in_slot : (bytes : List ℕ) (mu frame : Number) (place : ℕ) → ReadsMu bytes 0 mu → ReadsFrame bytes mu.next frame
    → LeavesFieldAt (codes " slot ") 0 (slots_in_frame mu.value) bytes frame.next place → LeavesAt IsGridText bytes place
leaves_in_slot bytes mu frame place mu_read read leaves =
    let slots = slots_in_frame mu.value in
    leaves_after_frame bytes mu frame place mu_read read leaves.least_place
    (leaves_field_at (codes " slot ") 0 slots AfterSlot bytes frame.next place (may_blocks 0 slots) leaves)

-- or within the number of blocks
pub leaves_in_blocks : (bytes : List ℕ) (mu frame slot : Number) (place : ℕ) → ReadsMu bytes 0 mu → ReadsFrame bytes mu.next frame
    → ReadsSlot mu.value bytes frame.next slot → LeavesFieldAt (codes " blocks ") least_blocks past_blocks bytes slot.next place
    → LeavesAt IsGridText bytes place
leaves_in_blocks bytes mu frame slot place mu_read frame_read read leaves =
    leaves_after_slot bytes mu frame slot place mu_read frame_read read leaves.least_place
    (leaves_field_at (codes " blocks ") least_blocks past_blocks AfterBlocks bytes slot.next place may_rest leaves)

-- or behind the head
pub leaves_after_head : (bytes : List ℕ) (head : Head) (place : ℕ) → IsHead bytes head → head.blocks.next ≤ place
    → LeavesAt (AfterBlocks head.blocks.value) (drop head.blocks.next bytes) (place - head.blocks.next)
    → LeavesAt IsGridText bytes place
leaves_after_head bytes head place is far leaves =
    leaves_after_slot bytes head.mu head.frame head.slot place is.mu_read is.frame_read is.slot_read
    (omega (arith, is.blocks_read.far))
    (leaves_after_field_at
    (codes " blocks ") least_blocks past_blocks AfterBlocks bytes head.slot.next head.blocks.value head.blocks.next place
    (omega arith) may_rest is.blocks_read far leaves)

-- a grid has the numbers of a head
pub record HasNumbers (grid : GridValue) (head : Head) : Type 0 where
  pub mu : grid.mu ≡ head.mu.value
  pub frame : grid.frame ≡ head.frame.value
  pub slot : grid.slot ≡ head.slot.value
  pub blocks : grid.blocks ≡ head.blocks.value

-- the bytes are the numbers of their head and what follows it
bytes_joined : (bytes : List ℕ) (head : Head) → IsHead bytes head
    → numbers_before head.mu.value head.frame.value head.slot.value head.blocks.value (drop head.blocks.next bytes) ≡ bytes
bytes_joined bytes head is =
    let mu = codes "nrpdcch grid 1\nmu " ++ decimal head.mu.value in
    let frame = codes " frame " ++ decimal head.frame.value in
    let slot = codes " slot " ++ decimal head.slot.value in
    ap (λ x. mu ++ (frame ++ (slot ++ x))) (sym is.blocks_read.is)
    ∙ ap (λ x. mu ++ (frame ++ x)) (sym is.slot_read.is)
    ∙ ap (λ x. mu ++ x) (sym is.frame_read.is)
    ∙ sym is.mu_read.is

-- the head of a grid's numbers and what follows it are the text of the grid
pub text_of_head : (grid : GridValue) (bytes : List ℕ) (head : Head) → IsHead bytes head → HasNumbers grid head
    → rest_text grid ≡ drop head.blocks.next bytes → grid_text grid ≡ bytes
text_of_head grid bytes head is has rest =
    sym (text_joined grid)
    ∙ ap (numbers_before grid.mu grid.frame grid.slot grid.blocks) rest
    ∙ ap (λ n. numbers_before n grid.frame grid.slot grid.blocks (drop head.blocks.next bytes)) has.mu
    ∙ ap (λ n. numbers_before head.mu.value n grid.slot grid.blocks (drop head.blocks.next bytes)) has.frame
    ∙ ap (λ n. numbers_before head.mu.value head.frame.value n grid.blocks (drop head.blocks.next bytes)) has.slot
    ∙ ap (λ n. numbers_before head.mu.value head.frame.value head.slot.value n (drop head.blocks.next bytes)) has.blocks
    ∙ bytes_joined bytes head is
