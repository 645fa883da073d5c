-- What follows the numbers in a grid's text, and the pattern that it fits.
use Rattle.std.proofs.Common.{◌≡◌, ℕ, ◌+◌, ◌*◌, ◌<◌, List, [], ◌∷◌, ◌++◌, codes}
use Rattle.std.proofs.Common.{replicate, length, get_or, refl, sym, ◌∙◌, ap, arith, length-append}
use Rattle.std.specs.List.{range_with_len, flat_map}
use Rattle.std.proofs.Math.Nat.{sub_self}
use Rattle.std.proofs.lemmas.Nat.{mul-add-lt}
use Rattle.std.proofs.lemmas.List.{length-replicate, get_or_append_left, get_or-append_right, get_or-append-add, get_or-replicate}
use Rattle.std.proofs.lemmas.List.FromFn.{length-range_with_len}
use Rattle.list_facts.proofs.Lists.{length_pieces, piece_at}
use Rattle.grid_file.specs.Patterns.{line_pattern, rest_pattern}
use Rattle.grid_file.specs.Reading.{place_of}

-- a line has a character for each subcarrier, and a line feed
pub length-line_pattern : (blocks : ℕ) → length (line_pattern blocks) ≡ 12 * blocks + 1
unfolding line_pattern
length-line_pattern blocks =
    length-append (replicate (12 * blocks) 46) (10 ∷ []) ∙ ap (λ n. n + 1) (length-replicate (12 * blocks) 46)

-- the lines of the pattern
abbrev pub lines_pattern : ℕ → List ℕ
lines_pattern blocks = flat_map (λ _. line_pattern blocks) (range_with_len 0 14)

-- the lines of all symbols
pub length-lines_pattern : (blocks : ℕ) → length (lines_pattern blocks) ≡ 14 * (12 * blocks + 1)
length-lines_pattern blocks =
    length_pieces (λ _. line_pattern blocks) (12 * blocks + 1) (λ i. length-line_pattern blocks) (range_with_len 0 14)
    ∙ ap (λ n. n * (12 * blocks + 1)) (length-range_with_len 0 14)

-- a line feed, the lines and the last line
pub length-rest_pattern : (blocks : ℕ) → length (rest_pattern blocks) ≡ 1 + 14 * (12 * blocks + 1) + 4
unfolding rest_pattern
length-rest_pattern blocks =
    length-append (10 ∷ [] ++ lines_pattern blocks) (codes "end\n")
    ∙ ap (λ n. n + 4) (length-append (10 ∷ []) (lines_pattern blocks) ∙ ap (λ n. 1 + n) (length-lines_pattern blocks))

-- the pattern begins with a line feed
pub pattern_begins : (blocks : ℕ) → get_or (rest_pattern blocks) 0 0 ≡ 10
unfolding rest_pattern
pattern_begins blocks = refl

-- what stands in the line of a symbol
in_line : (blocks s j : ℕ) → s < 14 → j < 12 * blocks + 1
    → get_or (rest_pattern blocks) (place_of blocks s j) 0 ≡ get_or (line_pattern blocks) j 0
unfolding rest_pattern
in_line blocks s j h k =
    let w = 12 * blocks + 1 in
    let lines = lines_pattern blocks in
    let size = length-lines_pattern blocks in
    let inside = mul-add-lt s w j 14 h k in
    let front : length (10 ∷ [] ++ lines) ≡ 1 + length lines = length-append (10 ∷ []) lines in
    get_or_append_left (10 ∷ [] ++ lines) (codes "end\n") 0 (1 + (s * w + j)) (omega arith)
    ∙ get_or-append-add (10 ∷ []) lines (s * w + j) 0
    ∙ piece_at (λ _. line_pattern blocks) w 14 s j (λ i. length-line_pattern blocks) h k

-- the pattern has a dot at each subcarrier
pub cell_in_pattern : (blocks s c : ℕ) → s < 14 → c < 12 * blocks → get_or (rest_pattern blocks) (place_of blocks s c) 0 ≡ 46
unfolding line_pattern
cell_in_pattern blocks s c h k =
    let dots : List ℕ = replicate (12 * blocks) 46 in
    let size : length dots ≡ 12 * blocks = length-replicate (12 * blocks) 46 in
    in_line blocks s c h (omega arith)
    ∙ get_or_append_left dots (10 ∷ []) 0 c (omega arith) ∙ get_or-replicate (12 * blocks) c 46 0 k

-- it has a line feed behind each line
pub break_in_pattern : (blocks s : ℕ) → s < 14 → get_or (rest_pattern blocks) (place_of blocks s (12 * blocks)) 0 ≡ 10
unfolding line_pattern
break_in_pattern blocks s h =
    let dots : List ℕ = replicate (12 * blocks) 46 in
    let size : length dots ≡ 12 * blocks = length-replicate (12 * blocks) 46 in
    in_line blocks s (12 * blocks) h (omega arith)
    ∙ get_or-append_right dots (10 ∷ []) (12 * blocks) (12 * blocks) 0 size (omega arith)
    ∙ ap (λ i. get_or {A = ℕ} (10 ∷ []) i 0) (sub_self (12 * blocks))

-- it has the last line behind all of them
pub end_in_pattern : (blocks i : ℕ) → get_or (rest_pattern blocks) (1 + 14 * (12 * blocks + 1) + i) 0 ≡ get_or (codes "end\n") i 0
unfolding rest_pattern
end_in_pattern blocks i =
    let front : length (10 ∷ [] ++ lines_pattern blocks) ≡ 1 + 14 * (12 * blocks + 1) =
    length-append (10 ∷ []) (lines_pattern blocks) ∙ ap (λ n. 1 + n) (length-lines_pattern blocks) in
    ap (λ n. get_or (rest_pattern blocks) (n + i) 0) (sym front)
    ∙ get_or-append-add (10 ∷ [] ++ lines_pattern blocks) (codes "end\n") i 0

-- each character of a line stands within the pattern
pub place_lt : (blocks s c : ℕ) → s < 14 → c < 12 * blocks + 1 → place_of blocks s c < length (rest_pattern blocks)
place_lt blocks s c h k = omega (arith, length-rest_pattern blocks, mul-add-lt s (12 * blocks + 1) c 14 h k)
