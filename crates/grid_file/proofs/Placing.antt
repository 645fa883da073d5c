-- The points of a text put on a grid, character by character.
use Rattle.std.proofs.Common.{◌≡◌, ℕ, ◌+◌, ◌-◌, ◌*◌, ◌<◌, ◌≤◌, Bool, false, IsTrue, is_some, Some, None, List, ◌++◌}
use Rattle.std.proofs.Common.{codes, length, take, drop, get_or, refl, sym, ◌∙◌, ap, subst, inl, inr, arith}
use Rattle.std.proofs.Math.Nat.{add-zero}
use Rattle.std.proofs.lemmas.Bool.{cases_lt}
use Rattle.std.proofs.lemmas.Nat.{mul-add-lt, same_from_place}
use Rattle.std.proofs.Math.Seq.{take-append_seam}
use Rattle.std.proofs.lemmas.List.{length-drop, get_or-take, get_or-drop, take_all}
use Rattle.slot_grid.specs.declared.places.Point.{Point}
use Rattle.slot_grid.specs.Grid.{GridValue, IsPut, point_at}
use Rattle.grid_file.specs.Bytes.{point_of}
use Rattle.grid_file.specs.Fields.{IsWord, LeavesWord}
use Rattle.grid_file.specs.LeavingPlace.{LeavesAt}
use Rattle.grid_file.specs.Patterns.{fits, Fits, FitsBefore, rest_pattern}
use Rattle.grid_file.specs.Reading.{place_of, IsPlacedTo, IsPlaced, LeavesPattern}
use Rattle.grid_file.proofs.PatternTexts.{fits_itself, fits_more, fits_none, fits_all, leaves_pattern}
use Rattle.grid_file.proofs.RestTexts.{length-rest_pattern, pattern_begins, cell_in_pattern, break_in_pattern}
use Rattle.grid_file.proofs.RestTexts.{end_in_pattern, place_lt}
use Rattle.grid_file.proofs.GridTexts.{fits_plain, no_dot_in_end}

none_fits : (byte : ℕ) → point_of byte ≡ None → IsTrue (fits 46 byte) → ⊥
none_fits byte e fit = let h : IsTrue false = subst (λ o. IsTrue (is_some o)) e fit in cc

some_fits : (byte : ℕ) (p : Point) → point_of byte ≡ Some p → IsTrue (fits 46 byte)
some_fits byte p e = subst (λ o. IsTrue (is_some o)) (sym e) refl

next_cell : (blocks symbol subcarrier : ℕ) → place_of blocks symbol (subcarrier + 1) ≡ place_of blocks symbol subcarrier + 1
next_cell blocks symbol subcarrier = omega arith

no_earlier : (t d s c w : ℕ) → t ≡ s → d ≡ c → t * w + d < s * w + c → ⊥
no_earlier t d s c w e f less = let same = ap (λ n. n * w) e in omega arith

line_ended : (blocks symbol : ℕ) → place_of blocks (symbol + 1) 0 ≡ place_of blocks symbol (12 * blocks) + 1
line_ended blocks symbol = grind (arith)

break_fits : (byte : ℕ) → byte ≡ 10 → IsTrue (fits 10 byte)
break_fits byte e = subst (λ b. IsTrue (fits 10 b)) (sym e) (fits_itself 10)

fits_break : (byte : ℕ) → IsTrue (fits 10 byte) → byte ≡ 10
fits_break byte fit = fits_plain 10 byte (λ e. omega arith) fit

same_row : (t d s w : ℕ) → t * w + d < (s + 1) * w + 0 → t * w + d < s * w + w
same_row t d s w h = grind (arith)

no_column : (blocks : ℕ) → place_of blocks 14 0 ≡ 1 + 14 * (12 * blocks + 1)
no_column blocks = omega arith

row_below : (s c w : ℕ) → s < 14 → c < w → s * w + c < 14 * w + 0
row_below s c w h k = omega (arith, mul-add-lt s w c 14 h k)

-- bytes that are the pattern's own fit it
fits_same : (pattern bytes : List ℕ) (place more : ℕ) → FitsBefore pattern bytes place → place + more ≤ length pattern
    → place + more ≤ length bytes
    → ((i : ℕ) → i < more → get_or bytes (place + i) 0 ≡ get_or pattern (place + i) 0) → FitsBefore pattern bytes (place + more)
fits_same pattern bytes place more h inside within same = record {
  inside = inside;
  within = within;
  each = λ i l.
      elim (cases_lt i place) [
        | inl less ↦ h.each i less
        | inr most ↦
            let here : place + (i - place) ≡ i = omega arith in
            let equal : get_or bytes i 0 ≡ get_or pattern i 0 =
            ap (λ n. get_or bytes n 0) (sym here) ∙ same (i - place) (omega arith) ∙ ap (λ n. get_or pattern n 0) here in
            subst (λ b. IsTrue (fits (get_or pattern i 0) b)) (sym equal) (fits_itself (get_or pattern i 0))
      ];
}

-- where the end stands
abbrev end_place : ℕ → ℕ
end_place blocks = place_of blocks 14 0

end_at : (blocks i : ℕ) → get_or (rest_pattern blocks) (end_place blocks + i) 0 ≡ get_or (codes "end\n") i 0
end_at blocks i = ap (λ n. get_or (rest_pattern blocks) (n + i) 0) (no_column blocks) ∙ end_in_pattern blocks i

taken_word : (word rest bytes : List ℕ) → bytes ≡ word ++ rest → take (length word) bytes ≡ take (length word) word
taken_word word rest bytes e =
    ap (take (length word)) e ∙ take-append_seam word rest ∙ sym (take_all (length word) word (omega arith))

-- a test that does not pass tells that its fact does not hold
pub not_there : {P : Type 0} (b : Bool) → (P → IsTrue b) → b ≡ false → P → ⊥
not_there b h e p = let no : IsTrue false = subst (λ x. IsTrue x) e (h p) in cc

-- the bytes behind the numbers, from `start` on, and the pattern of a grid with this many blocks
module _ (blocks : ℕ) (bytes : List ℕ) (start : ℕ) where
  -- the bytes leave the pattern within a place of it
  leaves_there : (k : ℕ) → k < length (rest_pattern blocks) → FitsBefore (rest_pattern blocks) (drop start bytes) k
      → (k < length (drop start bytes) → IsTrue (fits (get_or (rest_pattern blocks) k 0) (get_or (drop start bytes) k 0)) → ⊥)
      → LeavesPattern blocks bytes start (start + k)
  leaves_there k inside fit misfit =
      let here : k ≡ start + k - start = omega arith in
      record {
        least = omega arith;
        leaves =
            subst (λ n. LeavesAt (Fits (rest_pattern blocks)) (drop start bytes) n) here
            (leaves_pattern (rest_pattern blocks) (drop start bytes) k fit (λ _ long f. misfit long f)
            (λ e. absurd (omega arith)));
      }

  cell_leaves_there : (symbol subcarrier : ℕ) (grid : GridValue) → symbol < 14 → subcarrier < 12 * blocks
      → IsPlacedTo (drop start bytes) blocks symbol subcarrier grid
      → point_of (get_or bytes (start + place_of blocks symbol subcarrier) 0) ≡ None
      → LeavesPattern blocks bytes start (start + place_of blocks symbol subcarrier)
  cell_leaves_there symbol subcarrier grid h k placed none =
      let at = place_of blocks symbol subcarrier in
      leaves_there at (place_lt blocks symbol subcarrier h (omega arith)) placed.fit
      (λ long fit.
      none_fits (get_or (drop start bytes) at 0) (ap point_of (get_or-drop start bytes at 0) ∙ none)
      (subst (λ w. IsTrue (fits w (get_or (drop start bytes) at 0))) (cell_in_pattern blocks symbol subcarrier h k) fit))

  -- the bytes leave the pattern at a place with no point's character
  pub cell_leaves : (symbol subcarrier place : ℕ) (grid : GridValue) → symbol < 14 → subcarrier < 12 * blocks
      → IsPlacedTo (drop start bytes) blocks symbol subcarrier grid → place ≡ start + place_of blocks symbol subcarrier
      → point_of (get_or bytes place 0) ≡ None
      → LeavesPattern blocks bytes start place
  cell_leaves symbol subcarrier place grid h k placed e none =
      subst (λ n. LeavesPattern blocks bytes start n) (sym e)
      (cell_leaves_there symbol subcarrier grid h k placed (ap (λ n. point_of (get_or bytes n 0)) (sym e) ∙ none))

  -- one point more
  pub cell_more : (symbol subcarrier place : ℕ) (point : Point) (old new : GridValue) → symbol < 14 → subcarrier < 12 * blocks
      → IsPlacedTo (drop start bytes) blocks symbol subcarrier old → IsPut symbol subcarrier point old new
      → place ≡ start + place_of blocks symbol subcarrier → point_of (get_or bytes place 0) ≡ Some point → place < length bytes
      → IsPlacedTo (drop start bytes) blocks symbol (subcarrier + 1) new
  cell_more s c place point old new h k placed put e is long =
      let x = drop start bytes in
      let at = place_of blocks s c in
      let byte : point_of (get_or x at 0) ≡ Some point =
      ap point_of (get_or-drop start bytes at 0 ∙ ap (λ n. get_or bytes n 0) (sym e)) ∙ is in
      record {
        blocks_are = put.numbers.blocks ∙ placed.blocks_are;
        fit =
            fits_more (rest_pattern blocks) x at (place_of blocks s (c + 1)) placed.fit (next_cell blocks s c)
            (place_lt blocks s c h (omega arith))
            (omega (arith, length-drop start bytes))
            (subst (λ w. IsTrue (fits w (get_or x at 0))) (sym (cell_in_pattern blocks s c h k))
            (some_fits (get_or x at 0) point byte));
        there = λ t d l m.
            elim (cases_lt (t * (12 * blocks) + d) (s * (12 * blocks) + c)) [
              | inl before ↦
                  placed.there t d l before
                  ∙ ap (λ p. Some p) (sym (put.others t d (λ e f. no_earlier t d s c (12 * blocks) e f before)))
              | inr here ↦
                  let place : t * (12 * blocks) + d ≡ s * (12 * blocks) + c = omega arith in
                  let (row, column) = same_from_place t d s c (12 * blocks) l k place in
                  ap (λ i. point_of (get_or x (place_of blocks i d) 0)) row
                  ∙ ap (λ j. point_of (get_or x (place_of blocks s j) 0)) column ∙ byte
                  ∙ ap (λ p. Some p) (sym put.there) ∙ ap (λ j. Some (point_at new s j)) (sym column)
                  ∙ ap (λ i. Some (point_at new i d)) (sym row)
            ];
      }

  -- one line more
  pub line_more : (symbol place : ℕ) (grid : GridValue) → symbol < 14
      → IsPlacedTo (drop start bytes) blocks symbol (12 * blocks) grid
      → place ≡ start + place_of blocks symbol (12 * blocks) → (place < length bytes) × (get_or bytes place 0 ≡ 10)
      → IsPlacedTo (drop start bytes) blocks (symbol + 1) 0 grid
  line_more s place grid h placed e has =
      let x = drop start bytes in
      let at = place_of blocks s (12 * blocks) in
      record {
        blocks_are = placed.blocks_are;
        fit =
            fits_more (rest_pattern blocks) x at (place_of blocks (s + 1) 0) placed.fit (line_ended blocks s)
            (place_lt blocks s (12 * blocks) h (omega arith))
            (omega (arith, length-drop start bytes, has.0))
            (subst (λ w. IsTrue (fits w (get_or x at 0))) (sym (break_in_pattern blocks s h))
            (break_fits (get_or x at 0) (get_or-drop start bytes at 0 ∙ ap (λ n. get_or bytes n 0) (sym e) ∙ has.1)));
        there = λ t d l m. placed.there t d l (same_row t d s (12 * blocks) m);
      }

  -- the bytes leave the pattern where a line does not end
  pub line_leaves : (symbol place : ℕ) (grid : GridValue) → symbol < 14
      → IsPlacedTo (drop start bytes) blocks symbol (12 * blocks) grid
      → place ≡ start + place_of blocks symbol (12 * blocks) → ((place < length bytes) × (get_or bytes place 0 ≡ 10) → ⊥)
      → LeavesPattern blocks bytes start place
  line_leaves s place grid h placed e other =
      let at = place_of blocks s (12 * blocks) in
      subst (λ n. LeavesPattern blocks bytes start n) (sym e)
      (leaves_there at (place_lt blocks s (12 * blocks) h (omega arith)) placed.fit
      (λ long fit.
      other (
        omega (arith, length-drop start bytes),
        ap (λ n. get_or bytes n 0) e ∙ sym (get_or-drop start bytes at 0)
            ∙ fits_break (get_or (drop start bytes) at 0)
            (subst (λ w. IsTrue (fits w (get_or (drop start bytes) at 0))) (break_in_pattern blocks s h) fit),
      )))

  -- the line feed behind the numbers
  pub start_placed : (grid : GridValue) → grid.blocks ≡ blocks → (start < length bytes) × (get_or bytes start 0 ≡ 10)
      → IsPlacedTo (drop start bytes) blocks 0 0 grid
  start_placed grid e has =
      let x = drop start bytes in
      let byte : get_or x 0 0 ≡ 10 = get_or-drop start bytes 0 0 ∙ ap (λ n. get_or bytes n 0) (add-zero start) ∙ has.1 in
      record {
        blocks_are = e;
        fit =
            fits_more (rest_pattern blocks) x 0 (place_of blocks 0 0) (fits_none (rest_pattern blocks) x) (omega arith)
            (omega (arith, length-rest_pattern blocks)) (omega (arith, length-drop start bytes, has.0))
            (subst (λ w. IsTrue (fits w (get_or x 0 0))) (sym (pattern_begins blocks)) (break_fits (get_or x 0 0) byte));
        there = λ s c l m. absurd (omega arith);
      }

  -- the bytes leave the pattern where it is not
  pub start_leaves : ((start < length bytes) × (get_or bytes start 0 ≡ 10) → ⊥)
      → LeavesPattern blocks bytes start start
  start_leaves other =
      let x = drop start bytes in
      subst (λ n. LeavesPattern blocks bytes start n) (add-zero start)
      (leaves_there 0 (omega (arith, length-rest_pattern blocks)) (fits_none (rest_pattern blocks) x)
      (λ long fit.
      other (
        omega (arith, length-drop start bytes),
        ap (λ n. get_or bytes n 0) (sym (add-zero start)) ∙ sym (get_or-drop start bytes 0 0)
            ∙ fits_break (get_or x 0 0) (subst (λ w. IsTrue (fits w (get_or x 0 0))) (pattern_begins blocks) fit),
      )))

  -- the bytes of the end up to a place of it
  end_fits : (at j : ℕ) (grid : GridValue) → IsPlacedTo (drop start bytes) blocks 14 0 grid → at ≡ start + end_place blocks
      → j ≤ 4 → at + j ≤ length bytes → take j (drop at bytes) ≡ take j (codes "end\n")
      → FitsBefore (rest_pattern blocks) (drop start bytes) (end_place blocks + j)
  end_fits at j grid placed e most long same =
      let x = drop start bytes in
      fits_same (rest_pattern blocks) x (end_place blocks) j placed.fit (omega (arith, length-rest_pattern blocks))
      (omega (arith, length-drop start bytes))
      (λ i l.
      let place : start + (end_place blocks + i) ≡ at + i = omega arith in
      get_or-drop start bytes (end_place blocks + i) 0 ∙ ap (λ n. get_or bytes n 0) place ∙ sym (get_or-drop at bytes i 0)
      ∙ sym (get_or-take j (drop at bytes) i 0 l)
      ∙ ap (λ (t : List ℕ). get_or t i 0) same ∙ get_or-take j (codes "end\n") i 0 l ∙ sym (end_at blocks i))

  -- the bytes leave the pattern within the last line
  pub end_leaves : (at place : ℕ) (grid : GridValue) → IsPlacedTo (drop start bytes) blocks 14 0 grid
      → at ≡ start + end_place blocks → LeavesWord (codes "end\n") bytes at place → LeavesPattern blocks bytes start place
  end_leaves at place grid placed e leaves =
      let x = drop start bytes in
      let j = place - at in
      let k = end_place blocks + j in
      let here : start + k ≡ place = omega (arith, leaves.least) in
      let short : j < 4 = leaves.inside in
      let fit = end_fits at j grid placed e (omega arith) (omega (arith, leaves.least, leaves.within)) leaves.before in
      subst (λ n. LeavesPattern blocks bytes start n) here
      (leaves_there k (omega (arith, length-rest_pattern blocks)) fit
      (λ long f.
      let wanted = get_or (codes "end\n") j 0 in
      let there : at + j ≡ start + k = omega arith in
      let byte : get_or x k 0 ≡ wanted =
      fits_plain wanted (get_or x k 0) (λ dot. no_dot_in_end j short dot)
      (subst (λ w. IsTrue (fits w (get_or x k 0))) (end_at blocks j) f) in
      leaves.there (omega (arith, length-drop start bytes))
      (get_or-drop at bytes j 0 ∙ ap (λ n. get_or bytes n 0) there ∙ sym (get_or-drop start bytes k 0) ∙ byte)))

  -- the end is read
  end_read : (at next : ℕ) (grid : GridValue) → IsPlacedTo (drop start bytes) blocks 14 0 grid
      → at ≡ start + end_place blocks → IsWord bytes at (codes "end\n") next
      → FitsBefore (rest_pattern blocks) (drop start bytes) (end_place blocks + 4)
  end_read at next grid placed e word =
      end_fits at 4 grid placed e (omega arith) (omega (arith, word.far, word.within))
      (taken_word (codes "end\n") (drop next bytes) (drop at bytes) word.is)

  -- they leave it where they go on after the last line
  pub more_leaves : (at next : ℕ) (grid : GridValue) → IsPlacedTo (drop start bytes) blocks 14 0 grid
      → at ≡ start + end_place blocks → IsWord bytes at (codes "end\n") next → next < length bytes
      → LeavesPattern blocks bytes start next
  more_leaves at next grid placed e word long =
      let x = drop start bytes in
      let k = end_place blocks + 4 in
      let far : next ≡ at + 4 = word.far in
      let here : k ≡ next - start = omega arith in
      let whole : length (rest_pattern blocks) ≡ k = length-rest_pattern blocks ∙ omega arith in
      record {
        least = omega arith;
        leaves =
            subst (λ n. LeavesAt (Fits (rest_pattern blocks)) x n) here
            (leaves_pattern (rest_pattern blocks) x k (end_read at next grid placed e word) (λ less long fit. omega arith)
            (λ same. omega (arith, length-drop start bytes)));
      }

  -- where they end there, all points stand on the grid
  pub all_placed : (at next : ℕ) (grid : GridValue) → IsPlacedTo (drop start bytes) blocks 14 0 grid
      → at ≡ start + end_place blocks → IsWord bytes at (codes "end\n") next → length bytes ≤ next
      → IsPlaced (drop start bytes) blocks grid
  all_placed at next grid placed e word ended =
      let x = drop start bytes in
      let far : next ≡ at + 4 = word.far in
      let whole : length (rest_pattern blocks) ≡ end_place blocks + 4 = length-rest_pattern blocks ∙ omega arith in
      record {
        fit =
            fits_all (rest_pattern blocks) x (end_place blocks + 4) (end_read at next grid placed e word) (omega arith)
            (omega (arith, length-drop start bytes));
        there = λ s c h k. placed.there s c k (row_below s c (12 * blocks) h k);
      }
