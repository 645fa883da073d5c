-- A text is the bytes' own as far as it goes: the grid that bytes place shares as many first bytes with them as any grid of its
-- numbers does.
use Rattle.std.proofs.Common.{◌≡◌, ℕ, zero, suc, ◌+◌, ◌-◌, ◌*◌, ◌/◌, ◌%◌, ◌<◌, ◌≤◌}
use Rattle.std.proofs.Common.{◌==◌, inl, inr, unwrap_or, List, [], ◌∷◌, ◌++◌, codes, length}
use Rattle.std.proofs.Common.{take, get_or, refl, sym, ◌∙◌, ap, subst, arith, length-append, append_assoc}
use Rattle.std.specs.List.{range_with_len, flat_map, common_prefix_len}
use Rattle.std.specs.Fmt.{decimal}
use Rattle.std.proofs.lemmas.Bool.{cases_lt}
use Rattle.std.proofs.lemmas.Nat.{div_below, mod_below, div-add-mod'}
use Rattle.std.proofs.lemmas.List.{length-take-le, get_or_append_left, get_or-append_right, get_or-append-add, get_or-take}
use Rattle.list_facts.proofs.Lists.{shared_least}
use Rattle.slot_grid.specs.Grid.{GridValue, IsGrid, point_at}
use Rattle.slot_grid.specs.Image.{overwritten}
use Rattle.slot_grid.proofs.Images.{overwritten_is, overwritten_is_this, point_at-overwritten}
use Rattle.grid_file.specs.Bytes.{point_byte, point_of}
use Rattle.grid_file.specs.FoundGrid.{place_in_text, placed}
use Rattle.grid_file.specs.GridText.{grid_head, symbol_line, grid_text, place_in_lines}
use Rattle.grid_file.specs.Patterns.{Fits, rest_pattern}
use Rattle.grid_file.specs.Reading.{place_of}
use Rattle.grid_file.proofs.BlankGrids.{blank_of}
use Rattle.grid_file.proofs.GridTexts.{rest_text, rest_fits, point_there, fits_plain, no_dot_in_end}
use Rattle.grid_file.proofs.OneText.{character_at}
use Rattle.grid_file.proofs.RestTexts.{length-rest_pattern, pattern_begins, break_in_pattern, end_in_pattern}

-- the head without its last line feed
unfoldable numbers_text : ℕ → ℕ → ℕ → ℕ → List ℕ
numbers_text mu frame slot blocks =
    codes "nrpdcch grid 1\nmu " ++ decimal mu ++ codes " frame " ++ decimal frame ++ codes " slot " ++ decimal slot
    ++ codes " blocks " ++ decimal blocks

abbrev numbers_of : GridValue → List ℕ
numbers_of grid = numbers_text grid.mu grid.frame grid.slot grid.blocks

length_head : (mu frame slot blocks : ℕ)
    → length (grid_head mu frame slot blocks) ≡ length (numbers_text mu frame slot blocks) + 1
unfolding grid_head numbers_text
length_head mu frame slot blocks =
    length-append
    (codes "nrpdcch grid 1\nmu " ++ decimal mu ++ codes " frame " ++ decimal frame ++ codes " slot " ++ decimal slot
    ++ codes " blocks " ++ decimal blocks)
    (10 ∷ [])

four_joined : (n x l e : List ℕ) → n ++ x ++ l ++ e ≡ n ++ (x ++ l ++ e)
four_joined n x l e = ap (λ t. t ++ e) (append_assoc n x l) ∙ append_assoc n (x ++ l) e

text_parts : (grid : GridValue) → grid_text grid ≡ numbers_of grid ++ rest_text grid
unfolding grid_text grid_head numbers_text rest_text
text_parts grid =
    four_joined
    (codes "nrpdcch grid 1\nmu " ++ decimal grid.mu ++ codes " frame " ++ decimal grid.frame ++ codes " slot "
    ++ decimal grid.slot ++ codes " blocks " ++ decimal grid.blocks)
    (10 ∷ []) (flat_map (symbol_line grid) (range_with_len 0 14)) (codes "end\n")

behind_break : (head numbers inner : ℕ) → head ≡ numbers + 1 → head + inner ≡ numbers + (1 + inner)
behind_break head numbers inner e = omega arith

place_is : (grid : GridValue) (s c : ℕ) → place_in_text grid s c ≡ length (numbers_of grid) + place_of grid.blocks s c
place_is grid s c =
    behind_break (length (grid_head grid.mu grid.frame grid.slot grid.blocks)) (length (numbers_of grid))
    (place_in_lines grid.blocks s c)
    (length_head grid.mu grid.frame grid.slot grid.blocks)

-- the character of a place
character_in_text : (grid : GridValue) (s c : ℕ) → s < 14 → c < 12 * grid.blocks
    → get_or (grid_text grid) (place_in_text grid s c) 0 ≡ point_byte (point_at grid s c)
character_in_text grid s c h k =
    ap (λ (t : List ℕ). get_or t (place_in_text grid s c) 0) (text_parts grid)
    ∙ ap (λ i. get_or (numbers_of grid ++ rest_text grid) i 0) (place_is grid s c)
    ∙ get_or-append-add (numbers_of grid) (rest_text grid) (place_of grid.blocks s c) 0
    ∙ character_at grid s c h k

-- a grid is placed by its text
pub placed_of_text : (grid : GridValue) → IsGrid grid → grid ≡ placed (grid_text grid) (blank_of grid)
unfolding placed
placed_of_text grid legal =
    let blank = blank_of grid in
    overwritten_is_this (λ s c. point_of (get_or (grid_text grid) (place_in_text blank s c) 0)) blank grid refl refl refl
    refl legal.size
    (λ s c h k.
    sym
    (ap (λ b. unwrap_or (point_of b) (point_at blank s c)) (character_in_text grid s c h k)
    ∙ ap (λ o. unwrap_or o (point_at blank s c)) (point_there (point_at grid s c))))

-- what bytes place is a grid
pub placed_is_grid : (bytes : List ℕ) (blank : GridValue) → IsGrid blank → IsGrid (placed bytes blank)
unfolding placed
placed_is_grid bytes blank legal = overwritten_is (λ s c. point_of (get_or bytes (place_in_text blank s c) 0)) blank legal

-- the point that bytes place, where their character stands for one
point_placed : (bytes : List ℕ) (grid : GridValue) (s c : ℕ) → s < 14 → c < 12 * grid.blocks
    → get_or bytes (place_in_text grid s c) 0 ≡ point_byte (point_at grid s c)
    → point_at (placed bytes (blank_of grid)) s c ≡ point_at grid s c
unfolding placed
point_placed bytes grid s c h k e =
    let blank = blank_of grid in
    point_at-overwritten (λ s c. point_of (get_or bytes (place_in_text blank s c) 0)) blank s c h k
    ∙ ap (λ b. unwrap_or (point_of b) (point_at blank s c)) e
    ∙ ap (λ o. unwrap_or o (point_at blank s c)) (point_there (point_at grid s c))

-- a place of the pattern: one of a point, or another
pub data Spot (blocks place : ℕ) : Type 0 where
  Cell : (s c : ℕ) → s < 14 → c < 12 * blocks → place ≡ place_of blocks s c → Spot blocks place
  Plain : (get_or (rest_pattern blocks) place 0 ≡ 46 → ⊥) → Spot blocks place

spot_in_lines : (blocks q : ℕ) → q < 14 * (12 * blocks + 1) → Spot blocks (1 + q)
spot_in_lines blocks q h =
    let w = 12 * blocks + 1 in
    let s = q / w in
    let c = q % w in
    let row : s < 14 = div_below q w 14 (omega arith) h in
    let column : c < w = mod_below q w (omega arith) in
    let is : q ≡ s * w + c = sym (div-add-mod' q w) in
    elim (cases_lt c (12 * blocks)) [
      | inl less ↦ Cell s c row less (omega arith)
      | inr most ↦
          let last : c ≡ 12 * blocks = omega arith in
          let place : 1 + q ≡ place_of blocks s (12 * blocks) = omega arith in
          let byte : get_or (rest_pattern blocks) (1 + q) 0 ≡ 10 = ap (λ i. get_or (rest_pattern blocks) i 0) place
          ∙ break_in_pattern blocks s row in
          Plain (λ e. omega arith)
    ]

spot_in_end : (blocks i : ℕ) → i < 4 → Spot blocks (1 + 14 * (12 * blocks + 1) + i)
spot_in_end blocks i h = Plain (λ e. no_dot_in_end i h (sym (end_in_pattern blocks i) ∙ e))

spot_at : (blocks place : ℕ) → place < length (rest_pattern blocks) → Spot blocks place
spot_at blocks zero h = Plain (λ e. omega (arith, pattern_begins blocks))
spot_at blocks (suc q) h =
    let size = length-rest_pattern blocks in
    elim (cases_lt q (14 * (12 * blocks + 1))) [
      | inl less ↦ subst (λ n. Spot blocks n) (omega arith) (spot_in_lines blocks q less)
      | inr most ↦
          let i = q - 14 * (12 * blocks + 1) in
          let place : 1 + 14 * (12 * blocks + 1) + i ≡ suc q = omega arith in
          subst (λ n. Spot blocks n) place (spot_in_end blocks i (omega arith))
    ]

-- a character of a grid is told by its pattern and, where this has a point, by the point
same_character : (a b : GridValue) (blocks place : ℕ) → Fits (rest_pattern blocks) (rest_text a)
    → Fits (rest_pattern blocks) (rest_text b)
    → a.blocks ≡ blocks → b.blocks ≡ blocks → place < length (rest_pattern blocks)
    → ((s c : ℕ) → s < 14 → c < 12 * blocks → place ≡ place_of blocks s c → point_at a s c ≡ point_at b s c) → Spot blocks place
    → get_or (rest_text a) place 0 ≡ get_or (rest_text b) place 0
same_character a b blocks place fit_a fit_b ea eb h same (Cell s c k l is) =
    let here : (g : GridValue) → g.blocks ≡ blocks → get_or (rest_text g) place 0 ≡ point_byte (point_at g s c) = λ g e.
    ap (λ i. get_or (rest_text g) i 0) (is ∙ ap (λ n. place_of n s c) (sym e))
    ∙ character_at g s c k (subst (λ n. c < 12 * n) (sym e) l) in
    here a ea ∙ ap point_byte (same s c k l is) ∙ sym (here b eb)
same_character a b blocks place fit_a fit_b ea eb h same (Plain plain) =
    fits_plain (get_or (rest_pattern blocks) place 0) (get_or (rest_text a) place 0) plain (fit_a.each place h)
    ∙ sym (fits_plain (get_or (rest_pattern blocks) place 0) (get_or (rest_text b) place 0) plain (fit_b.each place h))

blocks_placed : (bytes : List ℕ) (grid : GridValue) → (placed bytes (blank_of grid)).blocks ≡ grid.blocks
unfolding placed overwritten
blocks_placed bytes grid = refl

numbers_placed : (bytes : List ℕ) (grid : GridValue) → numbers_of (placed bytes (blank_of grid)) ≡ numbers_of grid
unfolding placed overwritten
numbers_placed bytes grid = refl

placed_parts : (bytes : List ℕ) (grid : GridValue)
    → grid_text (placed bytes (blank_of grid)) ≡ numbers_of grid ++ rest_text (placed bytes (blank_of grid))
placed_parts bytes grid =
    text_parts (placed bytes (blank_of grid))
    ∙ ap (λ front. front ++ rest_text (placed bytes (blank_of grid))) (numbers_placed bytes grid)

placed_fits : (bytes : List ℕ) (grid : GridValue) → Fits (rest_pattern grid.blocks) (rest_text (placed bytes (blank_of grid)))
placed_fits bytes grid =
    subst (λ n. Fits (rest_pattern n) (rest_text (placed bytes (blank_of grid)))) (blocks_placed bytes grid)
    (rest_fits (placed bytes (blank_of grid)))

length-placed : (bytes : List ℕ) (grid : GridValue) → length (grid_text (placed bytes (blank_of grid))) ≡ length (grid_text grid)
length-placed bytes grid =
    ap length (placed_parts bytes grid)
    ∙ length-append (numbers_of grid) (rest_text (placed bytes (blank_of grid)))
    ∙ ap (λ n. length (numbers_of grid) + n) ((placed_fits bytes grid).size ∙ sym (rest_fits grid).size)
    ∙ sym (length-append (numbers_of grid) (rest_text grid))
    ∙ ap length (sym (text_parts grid))

-- a character of what bytes place is that of a grid of the same numbers whose text is the bytes there
shared_character : (bytes : List ℕ) (grid : GridValue) (i : ℕ) → get_or (grid_text grid) i 0 ≡ get_or bytes i 0
    → i < length (grid_text grid)
    → get_or (grid_text (placed bytes (blank_of grid))) i 0 ≡ get_or (grid_text grid) i 0
shared_character bytes grid i same inside =
    let own = placed bytes (blank_of grid) in
    let front = numbers_of grid in
    let text : grid_text grid ≡ front ++ rest_text grid = text_parts grid in
    ap (λ (t : List ℕ). get_or t i 0) (placed_parts bytes grid)
    ∙ elim (cases_lt i (length front)) as (λ _. get_or (front ++ rest_text own) i 0 ≡ get_or (front ++ rest_text grid) i 0) [
      | inl less ↦ get_or_append_left front (rest_text own) 0 i less ∙ sym (get_or_append_left front (rest_text grid) 0 i less)
      | inr most ↦
          let place = i - length front in
          let size : length (grid_text grid) ≡ length front + length (rest_text grid) = ap length text
          ∙ length-append front (rest_text grid) in
          let fit = rest_fits grid in
          let there : place < length (rest_pattern grid.blocks) = omega (arith, fit.size) in
          get_or-append_right front (rest_text own) (length front) i 0 refl most
          ∙ sym
          (same_character grid own grid.blocks place fit (placed_fits bytes grid) refl (blocks_placed bytes grid) there
          (λ s c k l e.
          let here : place_in_text grid s c ≡ i = place_is grid s c ∙ omega arith in
          sym
          (point_placed bytes grid s c k l
          (ap (λ j. get_or bytes j 0) here
          ∙ sym same
          ∙ ap (λ j. get_or (grid_text grid) j 0) (sym here)
          ∙ character_in_text grid s c k l)))
          (spot_at grid.blocks place there))
          ∙ sym (get_or-append_right front (rest_text grid) (length front) i 0 refl most)
    ]
    ∙ ap (λ (t : List ℕ). get_or t i 0) (sym text)

-- where some grid's text begins with the first n of the bytes, the grid of its numbers that the bytes place shares n bytes with
-- them
pub shares_as_far : (bytes rest : List ℕ) (n : ℕ) (grid : GridValue) → n ≤ length bytes → grid_text grid ≡ take n bytes ++ rest
    → n ≤ common_prefix_len ◌==◌ (grid_text (placed bytes (blank_of grid))) bytes
shares_as_far bytes rest n grid most e =
    let front : length (take n bytes) ≡ n = length-take-le n bytes most in
    let long : length (grid_text grid) ≡ n + length rest = ap length e ∙ length-append (take n bytes) rest
    ∙ ap (λ m. m + length rest) front in
    shared_least (grid_text (placed bytes (blank_of grid))) bytes n (omega (arith, length-placed bytes grid)) most
    (λ i l.
    let same : get_or (grid_text grid) i 0 ≡ get_or bytes i 0 =
    ap (λ (t : List ℕ). get_or t i 0) e ∙ get_or_append_left (take n bytes) rest 0 i (omega arith) ∙ get_or-take n bytes i 0 l in
    shared_character bytes grid i same (omega arith) ∙ same)
