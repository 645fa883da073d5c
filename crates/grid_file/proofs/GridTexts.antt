-- What follows the numbers in the text of a grid.
use Rattle.std.proofs.Common.{◌≡◌, ℕ, zero, suc, ◌+◌, ◌*◌, ◌<◌, IsTrue, Some, List, [], ◌∷◌, ◌++◌, map, codes}
use Rattle.std.proofs.Common.{replicate, length, take, drop, get_or, refl, sym, ◌∙◌, ap, subst, arith, zero-add}
use Rattle.std.proofs.Common.{length-append}
use Rattle.std.specs.List.{range_with_len, flat_map}
use Rattle.std.proofs.Math.Nat.{add-zero}
use Rattle.std.proofs.lemmas.Bool.Decides.{nat_tests}
use Rattle.std.proofs.lemmas.Nat.{mul-add-lt}
use Rattle.std.proofs.lemmas.List.{same_lists, get_or_default, nil_from_length, length-replicate, length-take-le}
use Rattle.std.proofs.lemmas.List.{get_or-take, get_or-drop, get_or-replicate, take-append-drop}
use Rattle.std.proofs.lemmas.List.FromFn.{get_or-map-range_with_len, length-map-range_with_len}
use Rattle.slot_grid.specs.declared.places.Point.{Point}
use Rattle.slot_grid.specs.declared.places.Point.TheVariants.{Empty, P00, P01, P10, P11}
use Rattle.slot_grid.specs.Grid.{GridValue, point_at}
use Rattle.grid_file.specs.Bytes.{point_byte, point_of}
use Rattle.grid_file.specs.GridText.{symbol_line}
use Rattle.grid_file.specs.Patterns.{fits, Fits, line_pattern, rest_pattern}
use Rattle.grid_file.specs.Reading.{place_of}
use Rattle.grid_file.proofs.PatternTexts.{fits_whole, fits_joined, fits_front, fits_back}
use Rattle.grid_file.proofs.RestTexts.{length-line_pattern, length-lines_pattern}

-- what follows the numbers
unfoldable pub rest_text : GridValue → List ℕ
rest_text grid = 10 ∷ [] ++ flat_map (symbol_line grid) (range_with_len 0 14) ++ codes "end\n"

-- the character of a point stands for it
pub point_there : (p : Point) → point_of (point_byte p) ≡ Some p
point_there Empty = refl
point_there P00 = refl
point_there P01 = refl
point_there P10 = refl
point_there P11 = refl

point_fits : (p : Point) → IsTrue (fits 46 (point_byte p))
point_fits Empty = refl
point_fits P00 = refl
point_fits P01 = refl
point_fits P10 = refl
point_fits P11 = refl

-- the character of a subcarrier
abbrev cell : GridValue → ℕ → ℕ → ℕ
cell grid s c = point_byte (point_at grid s c)

line_fits : (grid : GridValue) (s : ℕ) → Fits (line_pattern grid.blocks) (symbol_line grid s)
unfolding line_pattern symbol_line
line_fits grid s =
    let n = 12 * grid.blocks in
    let cells : Fits (replicate n 46) (map (cell grid s) (range_with_len 0 n)) = record {
      size = length-map-range_with_len (cell grid s) 0 n ∙ sym (length-replicate {A = ℕ} n 46);
      each = λ i l.
          let inside : i < n = omega (arith, length-replicate {A = ℕ} n 46) in
          subst (λ w. IsTrue (fits w (get_or (map (cell grid s) (range_with_len 0 n)) i 0)))
          (sym (get_or-replicate n i 46 0 inside))
          (subst (λ c. IsTrue (fits 46 c)) (sym (get_or-map-range_with_len (cell grid s) 0 n i i 0 inside (zero-add i)))
          (point_fits (point_at grid s i)));
    } in
    fits_joined (replicate n 46) (10 ∷ []) (map (cell grid s) (range_with_len 0 n)) (10 ∷ []) cells (fits_whole (10 ∷ []))

lines_fit : (grid : GridValue) (xs : List ℕ) → Fits (flat_map (λ _. line_pattern grid.blocks) xs) (flat_map (symbol_line grid) xs)
lines_fit grid [] = record { size = refl; each = λ i l. absurd (omega arith) }
lines_fit grid (x ∷ xs) =
    fits_joined (line_pattern grid.blocks) (flat_map (λ _. line_pattern grid.blocks) xs) (symbol_line grid x)
    (flat_map (symbol_line grid) xs)
    (line_fits grid x) (lines_fit grid xs)

-- what follows the numbers of a grid fits the pattern of its blocks
pub rest_fits : (grid : GridValue) → Fits (rest_pattern grid.blocks) (rest_text grid)
unfolding rest_pattern rest_text
rest_fits grid =
    let pattern = flat_map (λ _. line_pattern grid.blocks) (range_with_len 0 14) in
    let lines = flat_map (symbol_line grid) (range_with_len 0 14) in
    fits_joined (10 ∷ [] ++ pattern) (codes "end\n") (10 ∷ [] ++ lines) (codes "end\n")
    (fits_joined (10 ∷ []) pattern (10 ∷ []) lines (fits_whole (10 ∷ [])) (lines_fit grid (range_with_len 0 14)))
    (fits_whole (codes "end\n"))

byte_of_point : (byte : ℕ) (p : Point) → point_of byte ≡ Some p → byte ≡ point_byte p
byte_of_point byte p e = grind (arith, point_there p)

-- only itself fits a character of the pattern that is no dot
pub fits_plain : (wanted byte : ℕ) → (wanted ≡ 46 → ⊥) → IsTrue (fits wanted byte) → byte ≡ wanted
fits_plain wanted byte plain fit = grind (arith, nat_tests)

no_dot_in_break : (i : ℕ) → i < 1 → get_or {A = ℕ} (10 ∷ []) i 0 ≡ 46 → ⊥
no_dot_in_break zero h e = omega arith
no_dot_in_break (suc i) h e = omega arith

-- a pattern with no point is fitted by itself alone
literal_is : (pattern bytes : List ℕ) → ((i : ℕ) → i < length pattern → get_or pattern i 0 ≡ 46 → ⊥) → Fits pattern bytes
    → pattern ≡ bytes
literal_is pattern bytes plain fit =
    same_lists pattern bytes (sym fit.size)
    (λ k d l.
    get_or_default pattern k d 0 l ∙ sym (fits_plain (get_or pattern k 0) (get_or bytes k 0) (plain k l) (fit.each k l))
    ∙ get_or_default bytes k 0 d (omega (arith, fit.size)))

break_is : (bytes : List ℕ) → Fits (10 ∷ []) bytes → 10 ∷ [] ≡ bytes
break_is bytes fit = literal_is (10 ∷ []) bytes (λ i l. no_dot_in_break i l) fit

-- bytes that fit a line and stand for the points of a symbol are its line
line_is : (grid : GridValue) (s : ℕ) (bytes : List ℕ) → Fits (line_pattern grid.blocks) bytes
    → ((c : ℕ) → c < 12 * grid.blocks → point_of (get_or bytes c 0) ≡ Some (point_at grid s c)) → symbol_line grid s ≡ bytes
unfolding line_pattern symbol_line
line_is grid s bytes fit there =
    let n = 12 * grid.blocks in
    let cells = map (cell grid s) (range_with_len 0 n) in
    let dots : List ℕ = replicate n 46 in
    let wide : length dots ≡ n = length-replicate n 46 in
    let many : length cells ≡ n = length-map-range_with_len (cell grid s) 0 n in
    let size : length bytes ≡ n + 1 = fit.size ∙ length-append dots (10 ∷ []) ∙ ap (λ m. m + 1) wide in
    let front : cells ≡ take n bytes =
    same_lists cells (take n bytes) (many ∙ sym (length-take-le n bytes (omega arith)))
    (λ k d l.
    let inside : k < n = omega arith in
    get_or_default cells k d 0 l
    ∙ get_or-map-range_with_len (cell grid s) 0 n k k 0 inside (zero-add k)
    ∙ sym (byte_of_point (get_or bytes k 0) (point_at grid s k) (there k inside))
    ∙ get_or_default bytes k 0 d (omega arith)
    ∙ sym (get_or-take n bytes k d inside)) in
    let back : 10 ∷ [] ≡ drop n bytes = break_is (drop n bytes)
    (subst (λ m. Fits (10 ∷ []) (drop m bytes)) wide (fits_back dots (10 ∷ []) bytes fit)) in
    ap (λ xs. xs ++ 10 ∷ []) front ∙ ap (λ xs. take n bytes ++ xs) back ∙ take-append-drop n bytes

-- the last line has no dot
pub no_dot_in_end : (i : ℕ) → i < 4 → get_or {A = ℕ} (codes "end\n") i 0 ≡ 46 → ⊥
no_dot_in_end zero h e = omega arith
no_dot_in_end (suc zero) h e = omega arith
no_dot_in_end (suc (suc zero)) h e = omega arith
no_dot_in_end (suc (suc (suc zero))) h e = omega arith
no_dot_in_end (suc (suc (suc (suc i)))) h e = omega arith

later_place : (size w t c : ℕ) → size ≡ w → size + (t * w + c) ≡ suc t * w + c
later_place size w t c e = grind (arith)

-- the lines of n symbols from s on
lines_are : (grid : GridValue) (n s : ℕ) (bytes : List ℕ)
    → Fits (flat_map (λ _. line_pattern grid.blocks) (range_with_len s n)) bytes
    → ((t c : ℕ) → t < n → c < 12 * grid.blocks
    → point_of (get_or bytes (t * (12 * grid.blocks + 1) + c) 0) ≡ Some (point_at grid (s + t) c))
    → flat_map (symbol_line grid) (range_with_len s n) ≡ bytes
lines_are grid zero s bytes fit there = sym (nil_from_length bytes fit.size)
lines_are grid (suc n) s bytes fit there =
    let blocks = grid.blocks in
    let w = 12 * blocks + 1 in
    let line = line_pattern blocks in
    let others = flat_map (λ _. line) (range_with_len (s + 1) n) in
    let wide : length line ≡ w = length-line_pattern blocks in
    let here : symbol_line grid s ≡ take (length line) bytes =
    line_is grid s (take (length line) bytes) (fits_front line others bytes fit)
    (λ c l.
    let first : c ≡ 0 * w + c = omega arith in
    ap point_of (get_or-take (length line) bytes c 0 (omega arith))
    ∙ ap (λ i. point_of (get_or bytes i 0)) first
    ∙ there 0 c (omega arith) l
    ∙ ap (λ t. Some (point_at grid t c)) (add-zero s)) in
    let later : flat_map (symbol_line grid) (range_with_len (s + 1) n) ≡ drop (length line) bytes =
    lines_are grid n (s + 1) (drop (length line) bytes) (fits_back line others bytes fit)
    (λ t c h l.
    let one_on : s + suc t ≡ s + 1 + t = omega arith in
    ap point_of (get_or-drop (length line) bytes (t * w + c) 0)
    ∙ ap (λ i. point_of (get_or bytes i 0)) (later_place (length line) w t c wide)
    ∙ there (suc t) c (omega arith) l
    ∙ ap (λ i. Some (point_at grid i c)) one_on) in
    ap (λ xs. xs ++ flat_map (symbol_line grid) (range_with_len (s + 1) n)) here
    ∙ ap (λ xs. take (length line) bytes ++ xs) later ∙ take-append-drop (length line) bytes

-- bytes that fit the pattern and stand for the points of a grid are what follows its numbers
pub rest_is : (grid : GridValue) (bytes : List ℕ) → Fits (rest_pattern grid.blocks) bytes
    → ((s c : ℕ) → s < 14 → c < 12 * grid.blocks
    → point_of (get_or bytes (place_of grid.blocks s c) 0) ≡ Some (point_at grid s c))
    → rest_text grid ≡ bytes
unfolding rest_pattern rest_text
rest_is grid bytes fit there =
    let w = 12 * grid.blocks + 1 in
    let start : List ℕ = 10 ∷ [] in
    let pattern = flat_map (λ _. line_pattern grid.blocks) (range_with_len 0 14) in
    let ending : List ℕ = codes "end\n" in
    let both = start ++ pattern in
    let front = take (length both) bytes in
    let long : length both ≡ 1 + 14 * w = length-append start pattern ∙ ap (λ n. 1 + n) (length-lines_pattern grid.blocks) in
    let front_fits : Fits both front = fits_front both ending bytes fit in
    let first : start ≡ take 1 front = literal_is start (take 1 front) (λ i l. no_dot_in_break i l)
    (fits_front start pattern front front_fits) in
    let lines : flat_map (symbol_line grid) (range_with_len 0 14) ≡ drop 1 front =
    lines_are grid 14 0 (drop 1 front) (fits_back start pattern front front_fits)
    (λ t c h l.
    let inside : t * w + c < 14 * w = omega (arith, mul-add-lt t w c 14 h (omega arith)) in
    ap point_of (get_or-drop 1 front (t * w + c) 0 ∙ get_or-take (length both) bytes (1 + (t * w + c)) 0 (omega arith))
    ∙ there t c h l
    ∙ ap (λ i. Some (point_at grid i c)) (sym (zero-add t))) in
    let last : ending ≡ drop (length both) bytes =
    literal_is ending (drop (length both) bytes) (λ i l. no_dot_in_end i l) (fits_back both ending bytes fit) in
    ap (λ xs. xs ++ flat_map (symbol_line grid) (range_with_len 0 14) ++ ending) first
    ∙ ap (λ xs. take 1 front ++ xs ++ ending) lines
    ∙ ap (λ xs. xs ++ ending) (take-append-drop 1 front)
    ∙ ap (λ xs. front ++ xs) last
    ∙ take-append-drop (length both) bytes
