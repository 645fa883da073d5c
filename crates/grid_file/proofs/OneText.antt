-- One text for each grid, and one place for other bytes.
use Rattle.std.proofs.Common.{◌≡◌, ℕ, ◌+◌, ◌*◌, ◌^◌, ◌<◌, ◌⊎◌, unwrap_or, Result, Ok, Err, List, [], ◌∷◌, ◌++◌, map}
use Rattle.std.proofs.Common.{codes, length, drop, get_or, refl, sym, ◌∙◌, ap, subst, inl, inr, arith, zero-add}
use Rattle.std.proofs.Common.{length-append, append_assoc}
use Rattle.std.specs.List.{range_with_len, flat_map}
use Rattle.std.specs.Fmt.{decimal}
use Rattle.std.specs.Result.{IfOk, IfErr}
use Rattle.std.proofs.lemmas.Nat.{mul-add-lt}
use Rattle.std.proofs.lemmas.Fmt.{decimal_injective}
use Rattle.std.proofs.lemmas.List.{append_cancel_left, length-replicate, get_or_append_left, get_or-append-add}
use Rattle.std.proofs.lemmas.List.FromFn.{get_or-map-range_with_len, length-map-range_with_len, length-range_with_len}
use Rattle.list_facts.proofs.Lists.{length_pieces, piece_at}
use Rattle.slot_grid.specs.declared.places.Point.TheVariants.{Empty}
use Rattle.slot_grid.specs.Grid.{GridValue, IsGrid, SameNumbers, point_at, slots_in_frame}
use Rattle.slot_grid.specs.Image.{blank_grid}
use Rattle.slot_grid.proofs.Images.{overwritten_is_this}
use Rattle.slot_grid.proofs.Slots.{slot_small}
use Rattle.grid_file.specs.Bytes.{point_byte, point_of}
use Rattle.grid_file.specs.Fields.{EndsNumber}
use Rattle.grid_file.specs.GridText.{symbol_line, grid_text, IsTextOf, IsGridText}
use Rattle.grid_file.specs.LeavingPlace.{LeavesAt}
use Rattle.grid_file.specs.Outcome.{fault_at, IsWhy}
use Rattle.grid_file.specs.declared.head.Head.{Head}
use Rattle.grid_file.specs.declared.fault.GridError.{GridError}
use Rattle.grid_file.specs.declared.fault.GridError.TheVariants.{Fault, NoMemory}
use Rattle.grid_file.specs.Reading.{place_of, IsHead, IsPlaced, LeavesPattern}
use Rattle.grid_file.proofs.Digits.{digits-decimal, runs_same}
use Rattle.grid_file.proofs.GridTexts.{rest_text, rest_is, point_there}
use Rattle.grid_file.proofs.HeadTexts.{other_byte, spelled, text_joined}
use Rattle.grid_file.proofs.HeadSteps.{HasNumbers, leaves_after_head, text_of_head}

length_line : (grid : GridValue) (s : ℕ) → length (symbol_line grid s) ≡ 12 * grid.blocks + 1
unfolding symbol_line
length_line grid s =
    length-append (map (λ c. point_byte (point_at grid s c)) (range_with_len 0 (12 * grid.blocks))) (10 ∷ [])
    ∙ ap (λ n. n + 1) (length-map-range_with_len (λ c. point_byte (point_at grid s c)) 0 (12 * grid.blocks))

line_at : (grid : GridValue) (s c : ℕ) → c < 12 * grid.blocks → get_or (symbol_line grid s) c 0 ≡ point_byte (point_at grid s c)
unfolding symbol_line
line_at grid s c h =
    let f : ℕ → ℕ = λ k. point_byte (point_at grid s k) in
    let n = 12 * grid.blocks in
    let size : length (map f (range_with_len 0 n)) ≡ n = length-map-range_with_len f 0 n in
    get_or_append_left (map f (range_with_len 0 n)) (10 ∷ []) 0 c (omega arith)
    ∙ get_or-map-range_with_len f 0 n c c 0 h (zero-add c)

-- the character of a place
pub character_at : (grid : GridValue) (s c : ℕ) → s < 14 → c < 12 * grid.blocks
    → get_or (rest_text grid) (place_of grid.blocks s c) 0 ≡ point_byte (point_at grid s c)
unfolding rest_text
character_at grid s c h k =
    let w = 12 * grid.blocks + 1 in
    let start : List ℕ = 10 ∷ [] in
    let lines = flat_map (symbol_line grid) (range_with_len 0 14) in
    let size : length lines ≡ 14 * w =
    length_pieces (symbol_line grid) w (length_line grid) (range_with_len 0 14) ∙ ap (λ n. n * w) (length-range_with_len 0 14) in
    let inside = mul-add-lt s w c 14 h (omega arith) in
    let front : length (start ++ lines) ≡ 1 + length lines = length-append start lines in
    get_or_append_left (start ++ lines) (codes "end\n") 0 (1 + (s * w + c)) (omega arith)
    ∙ get_or-append-add start lines (s * w + c) 0
    ∙ piece_at (symbol_line grid) w 14 s c (length_line grid) h (omega arith)
    ∙ line_at grid s c k

-- a grid is told by its numbers and what follows them in its text
pub grid_is_spelled : (grid : GridValue) → IsGrid grid → grid ≡ spelled grid.mu grid.frame grid.slot grid.blocks (rest_text grid)
unfolding spelled
grid_is_spelled grid legal =
    let blank = blank_grid grid.mu grid.frame grid.slot grid.blocks in
    overwritten_is_this (λ s c. point_of (get_or (rest_text grid) (place_of grid.blocks s c) 0)) blank grid refl refl refl
    refl legal.size
    (λ s c h k.
    sym
    (ap (λ b. unwrap_or (point_of b) (point_at blank s c)) (character_at grid s c h k)
    ∙ ap (λ o. unwrap_or o (point_at blank s c)) (point_there (point_at grid s c))))

same_number : (word : List ℕ) (m n : ℕ) (x y : List ℕ) → m < 2 ^ 64 → n < 2 ^ 64 → EndsNumber x → EndsNumber y
    → word ++ decimal m ++ x ≡ word ++ decimal n ++ y → (m ≡ n) × (x ≡ y)
same_number word m n x y h k l o e =
    let behind : decimal m ++ x ≡ decimal n ++ y =
    append_cancel_left word (decimal m ++ x) (decimal n ++ y)
    (sym (append_assoc word (decimal m) x) ∙ e ∙ append_assoc word (decimal n) y) in
    let (digits, rest) = runs_same (decimal m) (decimal n) x y (digits-decimal m h) (digits-decimal n k) l o behind in
    (decimal_injective m n h k digits, rest)

space_ends : (text : List ℕ) → get_or text 0 0 ≡ 32 → EndsNumber text
space_ends text e = other_byte 32 text (omega arith) e

rest_ends : (grid : GridValue) → EndsNumber (rest_text grid)
unfolding rest_text
rest_ends grid = other_byte 10 (rest_text grid) (omega arith) refl

-- two grids of one text are one
pub one_text : (a b : GridValue) → IsGrid a → IsGrid b → grid_text a ≡ grid_text b → a ≡ b
one_text a b h k e =
    let blocks_a = codes " blocks " ++ decimal a.blocks ++ rest_text a in
    let blocks_b = codes " blocks " ++ decimal b.blocks ++ rest_text b in
    let slot_a = codes " slot " ++ decimal a.slot ++ blocks_a in
    let slot_b = codes " slot " ++ decimal b.slot ++ blocks_b in
    let frame_a = codes " frame " ++ decimal a.frame ++ slot_a in
    let frame_b = codes " frame " ++ decimal b.frame ++ slot_b in
    let (mu, after_mu) = same_number (codes "nrpdcch grid 1\nmu ") a.mu b.mu frame_a frame_b (omega (arith, h.mu_most))
    (omega (arith, k.mu_most))
    (space_ends frame_a refl) (space_ends frame_b refl) (text_joined a ∙ e ∙ sym (text_joined b)) in
    let (frame, after_frame) = same_number (codes " frame ") a.frame b.frame slot_a slot_b (omega (arith, h.frame_most))
    (omega (arith, k.frame_most))
    (space_ends slot_a refl) (space_ends slot_b refl) after_mu in
    let (slot, after_slot) = same_number (codes " slot ") a.slot b.slot blocks_a blocks_b
    (omega (arith, slot_small a.mu a.slot h.mu_most h.slot_below)) (omega (arith, slot_small b.mu b.slot k.mu_most k.slot_below))
    (space_ends blocks_a refl) (space_ends blocks_b refl) after_frame in
    let (blocks, rest) = same_number (codes " blocks ") a.blocks b.blocks (rest_text a) (rest_text b)
    (omega (arith, h.blocks_most)) (omega (arith, k.blocks_most))
    (rest_ends a) (rest_ends b) after_slot in
    grid_is_spelled a h
    ∙ ap (λ m. spelled m a.frame a.slot a.blocks (rest_text a)) mu
    ∙ ap (λ f. spelled b.mu f a.slot a.blocks (rest_text a)) frame
    ∙ ap (λ s. spelled b.mu b.frame s a.blocks (rest_text a)) slot
    ∙ ap (λ n. spelled b.mu b.frame b.slot n (rest_text a)) blocks
    ∙ ap (λ x. spelled b.mu b.frame b.slot b.blocks x) rest
    ∙ sym (grid_is_spelled b k)

-- bytes leave a set of texts at one place
pub one_place : (IsText : List ℕ → Type 0) (bytes : List ℕ) (p q : ℕ) → LeavesAt IsText bytes p → LeavesAt IsText bytes q → p ≡ q
one_place IsText bytes p q h k = omega (arith, h.longest q k.within k.begins, k.longest p h.within h.begins)

-- the answer where the bytes are a grid's text
pub text_answers : (bytes : List ℕ) (r : Result GridValue GridError) → IfOk r (λ grid. IsTextOf grid bytes)
    → IfErr r (λ error. IsWhy bytes error)
    → (grid : GridValue) → IsTextOf grid bytes → (r ≡ Err NoMemory) ⊎ (r ≡ Ok grid)
text_answers bytes (Ok found) read why grid is =
    inr (ap (λ g. Ok g) (one_text found grid read.legal is.legal (read.text ∙ sym is.text)))
text_answers bytes (Err NoMemory) read why grid is = inl refl
text_answers bytes (Err (Fault fault)) read why grid is = absurd (why.no_text (grid, is))

-- the answer where the bytes are no grid's text
pub no_text_answers : (bytes : List ℕ) (r : Result GridValue GridError) → IfOk r (λ grid. IsTextOf grid bytes)
    → IfErr r (λ error. IsWhy bytes error)
    → (at : ℕ) → LeavesAt IsGridText bytes at → (r ≡ Err NoMemory) ⊎ (r ≡ Err (fault_at at))
no_text_answers bytes (Ok found) read why at leaves = absurd (leaves.no_text (found, read))
no_text_answers bytes (Err NoMemory) read why at leaves = inl refl
no_text_answers bytes (Err (Fault fault)) read why at leaves =
    inr (ap (λ n. Err (fault_at n)) (one_place IsGridText bytes fault.at at why leaves))

-- what is read is the grid of the text
pub read_is_text : (bytes : List ℕ) (r : Result GridValue GridError) → IfOk r (λ grid. IsTextOf grid bytes)
    → (grid : GridValue) → r ≡ Ok grid
    → IsTextOf grid bytes
read_is_text bytes r read grid e = subst (λ x. IfOk x (λ g. IsTextOf g bytes)) e read

-- a fault is at the place where the bytes leave every grid's text
pub fault_leaves : (bytes : List ℕ) (r : Result GridValue GridError) → IfErr r (λ error. IsWhy bytes error) → (at : ℕ)
    → r ≡ Err (fault_at at)
    → LeavesAt IsGridText bytes at
fault_leaves bytes r why at e = subst (λ x. IfErr x (λ error. IsWhy bytes error)) e why

-- the bytes after the head leave the grid's text
pub points_leave : (bytes : List ℕ) (head : Head) (place : ℕ) (blank : GridValue) → IsHead bytes head
    → blank ≡ blank_grid head.mu.value head.frame.value head.slot.value head.blocks.value
    → LeavesPattern blank.blocks bytes head.blocks.next place → LeavesAt IsGridText bytes place
points_leave bytes head place blank is e leaves =
    let here : LeavesPattern head.blocks.value bytes head.blocks.next place =
    subst (λ n. LeavesPattern n bytes head.blocks.next place) (ap (λ (g : GridValue). g.blocks) e) leaves in
    leaves_after_head bytes head place is here.least here.leaves

-- the grid with the points is the one of the text
pub points_read : (bytes : List ℕ) (head : Head) (blank grid : GridValue) → IsHead bytes head
    → blank ≡ blank_grid head.mu.value head.frame.value head.slot.value head.blocks.value → SameNumbers blank grid
    → IsPlaced (drop head.blocks.next bytes) blank.blocks grid → IsTextOf grid bytes
points_read bytes head blank grid is e same placed =
    let has : HasNumbers grid head = record {
      mu = same.mu ∙ ap (λ (g : GridValue). g.mu) e;
      frame = same.frame ∙ ap (λ (g : GridValue). g.frame) e;
      slot = same.slot ∙ ap (λ (g : GridValue). g.slot) e;
      blocks = same.blocks ∙ ap (λ (g : GridValue). g.blocks) e;
    } in
    let behind = drop head.blocks.next bytes in
    let here : IsPlaced behind grid.blocks grid = subst (λ n. IsPlaced behind n grid) (sym same.blocks) placed in
    record {
      legal = record {
        mu_most = omega (arith, is.mu_read.high, has.mu);
        frame_most = omega (arith, is.frame_read.high, has.frame);
        slot_below = subst (λ m. grid.slot < slots_in_frame m) (sym has.mu) (omega (arith, is.slot_read.high, has.slot));
        blocks_least = omega (arith, is.blocks_read.low, has.blocks);
        blocks_most = omega (arith, is.blocks_read.high, has.blocks);
        size =
            same.size ∙ ap (λ (g : GridValue). length g.points) e ∙ length-replicate (14 * (12 * head.blocks.value)) Empty
            ∙ ap (λ n. 14 * (12 * n)) (sym has.blocks);
      };
      text = text_of_head grid bytes head is has (rest_is grid behind here.fit here.there);
    }
