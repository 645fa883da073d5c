-- A grid by the words of its blocks.
use Rattle.std.proofs.Common.{◌≡◌, ℕ, ◌+◌, ◌*◌, ◌/◌, ◌%◌, ◌<◌, ◌≢◌, List, length, get_or, set, sym, ap, ◌∙◌, arith}
use Rattle.std.proofs.lemmas.Grind.{get_or_default_zero}
use Rattle.slot_grid.specs.declared.places.Point.{Point}
use Rattle.slot_grid.specs.declared.places.Point.TheVariants.{Empty}
use Rattle.slot_grid.specs.declared.places.Grid.TheInside.{Inside}
use Rattle.slot_grid.specs.Block.{point_in, points_in}
use Rattle.slot_grid.specs.Grid.{GridValue, point_at, with_point}
use Rattle.slot_grid.specs.View.{grid_of, IsStored}
use Rattle.slot_grid.proofs.BlockWords.{place_flat, word_within, get-block, set-points_in}
use Rattle.slot_grid.proofs.Points.{point_at_on}

-- the point at a place of a block is that of the block's word
pub point_of_block : (g : Inside) (s b k : ℕ) → IsStored g → s < 14 → b < g.blocks → k < 12
    → point_at (grid_of g) s (12 * b + k) ≡ point_in (get_or g.words.items (s * g.blocks + b) 0) k
point_of_block g s b k h l m n =
    point_at_on (grid_of g) s (12 * b + k) (omega arith)
    ∙ ap (λ i. get_or (points_in g.words.items g.blocks) i Empty) (place_flat s g.blocks b k)
    ∙ get-block g.words.items g.blocks (s * g.blocks + b) k (word_within s g.blocks b l m) n

-- and so at any subcarrier
pub point_of_place : (g : Inside) (s c : ℕ) → IsStored g → s < 14 → c < 12 * g.blocks
    → point_at (grid_of g) s c ≡ point_in (get_or g.words.items (s * g.blocks + c / 12) 0) (c % 12)
point_of_place g s c h l m =
    let place : c ≡ 12 * (c / 12) + c % 12 = omega arith in
    ap (point_at (grid_of g) s) place ∙ point_of_block g s (c / 12) (c % 12) h l (omega arith) (omega arith)

-- a word with another point at one place: the list of points has it there too
pub points_written : (words : List ℕ) (blocks s c w : ℕ) (p : Point) → length words ≡ 14 * blocks → s < 14 → c < 12 * blocks
    → point_in w (c % 12) ≡ p
    → ((j : ℕ) → j < 12 → j ≢ c % 12 → point_in w j ≡ point_in (get_or words (s * blocks + c / 12) 0) j)
    → points_in (set words (s * blocks + c / 12) w) blocks ≡ set (points_in words blocks) (s * (12 * blocks) + c) p
points_written words blocks s c w p size l m there others =
    let block : c / 12 < blocks = omega arith in
    let at = s * blocks + c / 12 in
    let place : 12 * at + c % 12 ≡ s * (12 * blocks) + c = omega (arith, place_flat s blocks (c / 12) (c % 12)) in
    set-points_in words blocks at (c % 12) w p size (word_within s blocks (c / 12) l block) (omega arith) there others
    ∙ ap (λ i. set (points_in words blocks) i p) place

-- the word that is read for a symbol and a block
pub word_read : (words : List ℕ) (blocks s b place word : ℕ) → length words ≡ 14 * blocks → s < 14 → b < blocks
    → place ≡ s * blocks + b → word ≡ get_or words place word → word ≡ get_or words (s * blocks + b) 0
word_read words blocks s b place word size l m here read =
    read
    ∙ get_or_default_zero words place word (omega (arith, here, size, word_within s blocks b l m))
    ∙ ap (λ i. get_or words i 0) here

-- the grid of these numbers and words
abbrev pub grid_in : ℕ → ℕ → ℕ → ℕ → List ℕ → GridValue
grid_in mu frame slot blocks words = record {
  mu = mu;
  frame = frame;
  slot = slot;
  blocks = blocks;
  points = points_in words blocks;
}

-- a word is written that differs from the old one in one place
pub grid_written : (mu frame slot blocks : ℕ) (words : List ℕ) (s c place k old new : ℕ) (p : Point)
    → length words ≡ 14 * blocks → s < 14 → c < 12 * blocks
    → place ≡ s * blocks + c / 12 → k ≡ c % 12 → old ≡ get_or words (s * blocks + c / 12) 0
    → point_in new k ≡ p → ((j : ℕ) → j < 12 → j ≢ k → point_in new j ≡ point_in old j)
    → grid_in mu frame slot blocks (set words place new) ≡ with_point s c p (grid_in mu frame slot blocks words)
grid_written mu frame slot blocks words s c place k old new p size l m here column read there others =
    let with : List Point → GridValue =
    λ points. record { mu = mu; frame = frame; slot = slot; blocks = blocks; points = points }
    in
    ap (λ i. grid_in mu frame slot blocks (set words i new)) here
    ∙ ap with
    (points_written words blocks s c new p size l m (ap (point_in new) (sym column) ∙ there)
    (λ j n ne. others j n (λ e. ne (e ∙ column)) ∙ ap (λ w. point_in w j) read))
