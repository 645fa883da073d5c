-- Each position of a word is sent at one place: the order of sending and its inverse.
use Rattle.std.proofs.Common.{ℕ, ◌≡◌, ◌+◌, ◌*◌, ◌/◌, ◌%◌, ◌<◌, ◌≤◌, true, false, List, [], ◌∷◌, get_or, leb, map, refl, ap, sym}
use Rattle.std.proofs.Common.{◌∙◌, arith}
use Rattle.std.specs.Prelude.{IsTrue}
use Rattle.std.specs.List.{range_with_len}
use Rattle.std.proofs.lemmas.Bool.{leb-true}
use Rattle.std.proofs.lemmas.List.FromFn.{get_or-map-range_with_len}
use Rattle.std.proofs.lemmas.Nat.{div-add-mod', div-mul-add, mod-mul-add, mul-add-lt}
use Rattle.std.proofs.Math.Nat.{mod-lt, mul-div-mul_left, mul_comm, div-lt_iff_lt-mul}
use Rattle.bits_core.specs.CodeLengths.{is_code_length}
use Rattle.rate_match.specs.SubblockOrder.{subblock_order, position_at}
use Rattle.rate_match.proofs.Subblocks.{IsInSubblocks, in_subblocks}

-- at which turn each sub-block of the word is sent
abbrev pub turn_order : List ℕ
turn_order =
    0 ∷ 1 ∷ 2 ∷ 4 ∷ 3 ∷ 5 ∷ 6 ∷ 7 ∷ 8 ∷ 10 ∷ 12 ∷ 14 ∷ 16 ∷ 18 ∷ 20 ∷ 22 ∷ 9 ∷ 11 ∷ 13 ∷ 15 ∷ 17 ∷ 19 ∷ 21 ∷ 23 ∷ 24 ∷ 25
    ∷ 26 ∷ 28 ∷ 27 ∷ 29 ∷ 30 ∷ 31 ∷ []

-- functions that give the same list of their values are the same on its numbers
pub same_at : {X : Type 0} (f g : ℕ → X) (n b : ℕ) (d : X) → map f (range_with_len 0 n) ≡ map g (range_with_len 0 n) → b < n
    → f b ≡ g b
same_at f g n b d e l =
    sym (get_or-map-range_with_len f 0 n b b d l (omega arith))
    ∙ ap (λ xs. get_or xs b d) e
    ∙ get_or-map-range_with_len g 0 n b b d l (omega arith)

turn_of_subblock : (b : ℕ) → b < 32 → get_or turn_order (get_or subblock_order b 0) 0 ≡ b
turn_of_subblock b l = same_at (λ a. get_or turn_order (get_or subblock_order a 0) 0) (λ a. a) 32 b 0 refl l

subblock_of_turn : (b : ℕ) → b < 32 → get_or subblock_order (get_or turn_order b 0) 0 ≡ b
subblock_of_turn b l = same_at (λ a. get_or subblock_order (get_or turn_order a 0) 0) (λ a. a) 32 b 0 refl l

-- no turn is above the last of 32
pub turn_at_most : (b : ℕ) → b < 32 → get_or turn_order b 0 ≤ 31
turn_at_most b l =
    leb-true (get_or turn_order b 0) 31 (same_at (λ a. leb (get_or turn_order a 0) 31) (λ a. true) 32 b false refl l)

-- the place that m goes to when sub-blocks of w places are put in the order of a table
abbrev pub reordered : List ℕ → ℕ → ℕ → ℕ
reordered table w m = get_or table (m / w) 0 * w + m % w

-- a place below the length of a word is in one of 32 sub-blocks
pub subblock_below : (w m : ℕ) → 0 < w → m < w * 32 → m / w < 32
subblock_below w m h l = (div-lt_iff_lt-mul h).1 (rw mul_comm at l)

-- a second table that undoes the first puts each place back
reordered_back : (there back : List ℕ) (w m : ℕ) → 0 < w → get_or back (get_or there (m / w) 0) 0 ≡ m / w
    → reordered back w (reordered there w m) ≡ m
reordered_back there back w m h e =
    let b = get_or there (m / w) 0 in
    let r : m % w < w = mod-lt m h in
    ap (λ (x : ℕ). get_or back x 0 * w + (b * w + m % w) % w) (div-mul-add b w (m % w) r)
    ∙ ap (λ (x : ℕ). get_or back b 0 * w + x) (mod-mul-add b w (m % w) r)
    ∙ ap (λ (x : ℕ). x * w + m % w) e
    ∙ div-add-mod' m w

-- the position of a place, by its sub-block
pub position_reordered : (n m : ℕ) → IsInSubblocks n → position_at n m ≡ reordered subblock_order (n / 32) m
unfolding position_at
position_reordered n m h =
    let turn : 32 * m / n ≡ m / (n / 32) =
    ap (λ (x : ℕ). 32 * m / x) (sym h.whole ∙ mul_comm (n / 32) 32) ∙ mul-div-mul_left m (n / 32) (omega arith)
    in
    ap (λ (x : ℕ). get_or subblock_order x 0 * (n / 32) + m % (n / 32)) turn

-- the place at which position p of a word of n bits is sent
unfoldable pub place_of : ℕ → ℕ → ℕ
place_of n p = reordered turn_order (n / 32) p

-- the place of the position of a place
pub place_of-position_at : (n m : ℕ) → IsTrue (is_code_length n) → m < n → place_of n (position_at n m) ≡ m
unfolding place_of
place_of-position_at n m h l =
    let b = in_subblocks n h in
    ap (λ (p : ℕ). reordered turn_order (n / 32) p) (position_reordered n m b)
    ∙ reordered_back subblock_order turn_order (n / 32) m b.some
    (turn_of_subblock (m / (n / 32)) (subblock_below (n / 32) m b.some (rw (b.whole) l)))

-- the position of the place of a position
pub position_at-place_of : (n p : ℕ) → IsTrue (is_code_length n) → p < n → position_at n (place_of n p) ≡ p
unfolding place_of
position_at-place_of n p h l =
    let b = in_subblocks n h in
    position_reordered n (reordered turn_order (n / 32) p) b
    ∙ reordered_back turn_order subblock_order (n / 32) p b.some
    (subblock_of_turn (p / (n / 32)) (subblock_below (n / 32) p b.some (rw (b.whole) l)))

-- each position has a place below the length of the word
pub place_below : (n p : ℕ) → IsTrue (is_code_length n) → p < n → place_of n p < n
unfolding place_of
place_below n p h l =
    let b = in_subblocks n h in
    let turn = turn_at_most (p / (n / 32)) (subblock_below (n / 32) p b.some (rw (b.whole) l)) in
    let below : reordered turn_order (n / 32) p < n / 32 * 32 =
    mul-add-lt (get_or turn_order (p / (n / 32)) 0) (n / 32) (p % (n / 32)) 32 (omega arith) (mod-lt p b.some)
    in
    rw b.whole at below

-- no position is sent at two places
pub position_once : (n m k : ℕ) → IsTrue (is_code_length n) → m < n → k < n → position_at n m ≡ position_at n k → m ≡ k
position_once n m k h l g e = sym (place_of-position_at n m h l) ∙ ap (place_of n) e ∙ place_of-position_at n k h g
