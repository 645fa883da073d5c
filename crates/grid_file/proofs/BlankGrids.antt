-- The grids with no point: each of them is a grid, and each list of numbers that a grid can have is that of one of them.
use Rattle.std.proofs.Common.{◌≡◌, ℕ, ◌+◌, ◌*◌, ◌<◌, ◌≤◌, subst, sym, arith}
use Rattle.std.specs.List.{range_with_len}
use Rattle.std.proofs.lemmas.List.{length-replicate}
use Rattle.list_facts.proofs.Members.{IsIn, in_map, map_in, in_flat_map, flat_map_in, in_range, range_in}
use Rattle.slot_grid.specs.declared.places.Point.TheVariants.{Empty}
use Rattle.slot_grid.specs.Grid.{GridValue, IsGrid, slots_in_frame}
use Rattle.slot_grid.specs.Image.{blank_grid}
use Rattle.grid_file.specs.FoundGrid.{blanks_of_slot, blanks_of_frame, blanks_of_numerology, blanks_below, blank_grids}
use Rattle.grid_file.specs.Ranges.{past_numerologies, past_frames, least_blocks, block_counts}

-- the grid of the same numbers with no point
abbrev pub blank_of : GridValue → GridValue
blank_of grid = blank_grid grid.mu grid.frame grid.slot grid.blocks

-- the numbers of a grid with no point
record AreNumbers (numerologies frames sizes : ℕ) (blank : GridValue) : Type 0 where
  mu : ℕ
  frame : ℕ
  slot : ℕ
  blocks : ℕ
  mu_below : mu < numerologies
  frame_below : frame < frames
  slot_below : slot < slots_in_frame mu
  blocks_least : least_blocks ≤ blocks
  blocks_below : blocks < least_blocks + sizes
  is : blank ≡ blank_grid mu frame slot blocks

-- a grid with no point is listed with those of its slot, these with those of its frame, and these with those of its numerology
blank_among : (numerologies frames sizes mu frame slot blocks : ℕ) → mu < numerologies → frame < frames → slot < slots_in_frame mu
    → least_blocks ≤ blocks → blocks < least_blocks + sizes
    → IsIn (blank_grid mu frame slot blocks) (blanks_below numerologies frames sizes)
unfolding blanks_below
blank_among numerologies frames sizes mu frame slot blocks h k l m n =
    let blank = blank_grid mu frame slot blocks in
    let slots = slots_in_frame mu in
    flat_map_in (blanks_of_numerology frames sizes) mu blank (range_with_len 0 numerologies)
    (range_in mu 0 numerologies (omega arith) (omega arith))
    (flat_map_in (blanks_of_frame sizes mu) frame blank (range_with_len 0 frames)
    (range_in frame 0 frames (omega arith) (omega arith))
    (flat_map_in (blanks_of_slot sizes mu frame) slot blank (range_with_len 0 slots)
    (range_in slot 0 slots (omega arith) (omega arith))
    (map_in (λ b. blank_grid mu frame slot b) blocks (range_with_len least_blocks sizes)
    (range_in blocks least_blocks sizes m n))))

blank_from : (numerologies frames sizes : ℕ) (blank : GridValue) → IsIn blank (blanks_below numerologies frames sizes)
    → AreNumbers numerologies frames sizes blank
unfolding blanks_below
blank_from numerologies frames sizes blank h =
    let (mu, mus, in_mu) = in_flat_map (blanks_of_numerology frames sizes) blank (range_with_len 0 numerologies) h in
    let (frame, all_frames, in_frame) = in_flat_map (blanks_of_frame sizes mu) blank (range_with_len 0 frames) in_mu in
    let (slot, slots, in_slot) =
    in_flat_map (blanks_of_slot sizes mu frame) blank (range_with_len 0 (slots_in_frame mu)) in_frame in
    let (blocks, all_sizes, is) = in_map (λ b. blank_grid mu frame slot b) blank (range_with_len least_blocks sizes) in_slot in
    record {
      mu = mu;
      frame = frame;
      slot = slot;
      blocks = blocks;
      mu_below = omega (arith, in_range mu 0 numerologies mus);
      frame_below = omega (arith, in_range frame 0 frames all_frames);
      slot_below = omega (arith, in_range slot 0 (slots_in_frame mu) slots);
      blocks_least = (in_range blocks least_blocks sizes all_sizes).0;
      blocks_below = (in_range blocks least_blocks sizes all_sizes).1;
      is = is;
    }

-- a grid with no point is a grid
pub blank_is : (mu frame slot blocks : ℕ) → mu ≤ 3 → frame ≤ 1023 → slot < slots_in_frame mu → 6 ≤ blocks → blocks ≤ 275
    → IsGrid (blank_grid mu frame slot blocks)
blank_is mu frame slot blocks h k l m n = record {
  mu_most = h;
  frame_most = k;
  slot_below = l;
  blocks_least = m;
  blocks_most = n;
  size = length-replicate (14 * (12 * blocks)) Empty;
}

-- there is one with the numbers of each grid
pub every_blank : (grid : GridValue) → IsGrid grid → IsIn (blank_of grid) blank_grids
unfolding blank_grids
every_blank grid legal =
    blank_among past_numerologies past_frames block_counts grid.mu grid.frame grid.slot grid.blocks (omega (arith, legal.mu_most))
    (omega (arith, legal.frame_most)) legal.slot_below legal.blocks_least (omega (arith, legal.blocks_most))

-- each of them is a grid
pub blanks_are : (blank : GridValue) → IsIn blank blank_grids → IsGrid blank
unfolding blank_grids
blanks_are blank h =
    let n = blank_from past_numerologies past_frames block_counts blank h in
    subst IsGrid (sym n.is)
    (blank_is n.mu n.frame n.slot n.blocks (omega (arith, n.mu_below)) (omega (arith, n.frame_below)) n.slot_below
    n.blocks_least (omega (arith, n.blocks_below)))
