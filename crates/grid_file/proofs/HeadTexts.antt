-- A grid's text, field by field.
use Rattle.std.proofs.Common.{◌≡◌, ℕ, ◌*◌, ◌<◌, ◌≤◌, IsTrue, is_some, Option, Some}
use Rattle.std.proofs.Common.{None, unwrap_or, List, [], ◌∷◌, ◌++◌, codes, get_or}
use Rattle.std.proofs.Common.{refl, sym, ◌∙◌, ap, subst, arith, append_assoc}
use Rattle.std.specs.List.{range_with_len, flat_map}
use Rattle.std.specs.Fmt.{decimal}
use Rattle.std.proofs.lemmas.Nat.{pow_pos}
use Rattle.slot_grid.specs.declared.places.Point.{Point}
use Rattle.slot_grid.specs.declared.places.Point.TheVariants.{Empty}
use Rattle.slot_grid.specs.Grid.{GridValue, IsGrid, point_at, slots_in_frame}
use Rattle.slot_grid.specs.Image.{blank_grid, overwritten}
use Rattle.slot_grid.proofs.Images.{length-overwritten, point_at-overwritten}
use Rattle.grid_file.specs.Bytes.{point_of}
use Rattle.grid_file.specs.Fields.{EndsNumber}
use Rattle.grid_file.specs.GridText.{grid_head, symbol_line, grid_text, IsGridText}
use Rattle.grid_file.specs.Patterns.{fits, Fits, rest_pattern}
use Rattle.grid_file.specs.Ranges.{past_numerologies, past_frames, least_blocks, past_blocks}
use Rattle.grid_file.specs.Reading.{place_of}
use Rattle.grid_file.proofs.FieldTexts.{InField, MayFollow}
use Rattle.grid_file.proofs.PatternTexts.{fits_whole}
use Rattle.grid_file.proofs.RestTexts.{cell_in_pattern, length-rest_pattern, pattern_begins, place_lt}
use Rattle.grid_file.proofs.GridTexts.{rest_text, rest_fits, rest_is, fits_plain}

-- what may follow the number of blocks in a grid's text
abbrev pub AfterBlocks : ℕ → List ℕ → Type 0
AfterBlocks blocks = Fits (rest_pattern blocks)

-- what may follow the slot
abbrev pub AfterSlot : ℕ → List ℕ → Type 0
AfterSlot slot = InField (codes " blocks ") least_blocks past_blocks AfterBlocks

-- what may follow the frame
abbrev pub AfterFrame : ℕ → ℕ → List ℕ → Type 0
AfterFrame mu frame = InField (codes " slot ") 0 (slots_in_frame mu) AfterSlot

-- what may follow the numerology
abbrev pub AfterMu : ℕ → List ℕ → Type 0
AfterMu mu = InField (codes " frame ") 0 past_frames (AfterFrame mu)

-- the texts of grids
abbrev pub InFields : List ℕ → Type 0
InFields = InField (codes "nrpdcch grid 1\nmu ") 0 past_numerologies AfterMu

-- a text that begins with a character before the digits does not go on with a number
pub other_byte : (byte : ℕ) (text : List ℕ) → byte < 48 → get_or text 0 0 ≡ byte → EndsNumber text
other_byte byte text small e digit = omega arith

-- something may follow each number of blocks, and no digit does
pub may_rest : MayFollow least_blocks past_blocks AfterBlocks
may_rest = record {
  some = λ blocks low high. (rest_pattern blocks, fits_whole (rest_pattern blocks));
  other = λ blocks text low high fit.
      other_byte 10 text (omega arith)
      (fits_plain 10 (get_or text 0 0) (λ e. omega arith)
      (subst (λ w. IsTrue (fits w (get_or text 0 0))) (pattern_begins blocks)
      (fit.each 0 (omega (arith, length-rest_pattern blocks)))));
}

-- so it is with each slot
pub may_blocks : (least limit : ℕ) → MayFollow least limit AfterSlot
may_blocks least limit = record {
  some = λ slot low high.
      let (rest, is) = may_rest.some 6 (omega arith) (omega arith) in (
        codes " blocks " ++ decimal 6
            ++ rest,
        record { value = 6; rest = rest; low = omega arith; high = omega arith; is = refl; more = is },
      );
  other = λ slot text low high within. other_byte 32 text (omega arith) (ap (λ (t : List ℕ). get_or t 0 0) (sym within.is));
}

-- so it is with each frame
pub may_slot : (mu least limit : ℕ) → MayFollow least limit (AfterFrame mu)
may_slot mu least limit = record {
  some = λ frame low high.
      let (rest, is) = (may_blocks 0 1).some 0 (omega arith) (omega arith) in (
        codes " slot " ++ decimal 0
            ++ rest,
        record { value = 0; rest = rest; low = omega arith; high = omega (arith, pow_pos mu); is = refl; more = is },
      );
  other = λ frame text low high within. other_byte 32 text (omega arith) (ap (λ (t : List ℕ). get_or t 0 0) (sym within.is));
}

-- so it is with each numerology
pub may_frame : MayFollow 0 past_numerologies AfterMu
may_frame = record {
  some = λ mu low high.
      let (rest, is) = (may_slot mu 0 1).some 0 (omega arith) (omega arith) in (
        codes " frame " ++ decimal 0
            ++ rest,
        record { value = 0; rest = rest; low = omega arith; high = omega arith; is = refl; more = is },
      );
  other = λ mu text low high within. other_byte 32 text (omega arith) (ap (λ (t : List ℕ). get_or t 0 0) (sym within.is));
}

-- nine pieces joined from either end
joined : (a m b f c s d n x l e : List ℕ)
    → a ++ m ++ (b ++ f ++ (c ++ s ++ (d ++ n ++ (x ++ l ++ e)))) ≡ a ++ m ++ b ++ f ++ c ++ s ++ d ++ n ++ x ++ l ++ e
joined a m b f c s d n x l e = simp append_assoc refl

-- these numbers, each behind its word, before a text
abbrev pub numbers_before : ℕ → ℕ → ℕ → ℕ → List ℕ → List ℕ
numbers_before mu frame slot blocks rest =
    codes "nrpdcch grid 1\nmu " ++ decimal mu
    ++ (codes " frame " ++ decimal frame ++ (codes " slot " ++ decimal slot ++ (codes " blocks " ++ decimal blocks ++ rest)))

-- the text of a grid by its numbers
pub text_joined : (grid : GridValue) → numbers_before grid.mu grid.frame grid.slot grid.blocks (rest_text grid) ≡ grid_text grid
unfolding grid_text grid_head rest_text
text_joined grid =
    joined (codes "nrpdcch grid 1\nmu ") (decimal grid.mu) (codes " frame ") (decimal grid.frame) (codes " slot ")
    (decimal grid.slot) (codes " blocks ")
    (decimal grid.blocks) (10 ∷ []) (flat_map (symbol_line grid) (range_with_len 0 14)) (codes "end\n")

-- the text of a grid is one of those
pub in_fields : (text : List ℕ) → IsGridText text → InFields text
in_fields text (grid, is) = record {
  value = grid.mu;
  rest =
      codes " frame " ++ decimal grid.frame
      ++ (codes " slot " ++ decimal grid.slot ++ (codes " blocks " ++ decimal grid.blocks ++ rest_text grid));
  low = omega arith;
  high = omega (arith, is.legal.mu_most);
  is = text_joined grid ∙ is.text;
  more = record {
    value = grid.frame;
    rest = codes " slot " ++ decimal grid.slot ++ (codes " blocks " ++ decimal grid.blocks ++ rest_text grid);
    low = omega arith;
    high = omega (arith, is.legal.frame_most);
    is = refl;
    more = record {
      value = grid.slot;
      rest = codes " blocks " ++ decimal grid.blocks ++ rest_text grid;
      low = omega arith;
      high = is.legal.slot_below;
      is = refl;
      more = record {
        value = grid.blocks;
        rest = rest_text grid;
        low = is.legal.blocks_least;
        high = omega (arith, is.legal.blocks_most);
        is = refl;
        more = rest_fits grid;
      };
    };
  };
}

-- the grid of these numbers whose points the bytes after them stand for
unfoldable pub spelled : ℕ → ℕ → ℕ → ℕ → List ℕ → GridValue
spelled mu frame slot blocks bytes =
    overwritten (λ s c. point_of (get_or bytes (place_of blocks s c) 0)) (blank_grid mu frame slot blocks)

unwrap_either : (o : Option Point) (p q : Point) → IsTrue (is_some o) → unwrap_or o p ≡ unwrap_or o q
unwrap_either None p q h = absurd (cc)
unwrap_either (Some r) p q h = refl

point_is_some : (o : Option Point) → IsTrue (is_some o) → o ≡ Some (unwrap_or o Empty)
point_is_some None h = absurd (cc)
point_is_some (Some p) h = refl

point_spelled : (mu frame slot blocks : ℕ) (bytes : List ℕ) → Fits (rest_pattern blocks) bytes → (s c : ℕ) → s < 14
    → c < 12 * blocks
    → point_of (get_or bytes (place_of blocks s c) 0) ≡ Some (point_at (spelled mu frame slot blocks bytes) s c)
unfolding spelled
point_spelled mu frame slot blocks bytes fit s c h k =
    let blank = blank_grid mu frame slot blocks in
    let here = fit.each (place_of blocks s c) (place_lt blocks s c h (omega arith)) in
    let some : IsTrue (is_some (point_of (get_or bytes (place_of blocks s c) 0))) =
    subst (λ w. IsTrue (fits w (get_or bytes (place_of blocks s c) 0))) (cell_in_pattern blocks s c h k) here in
    point_is_some (point_of (get_or bytes (place_of blocks s c) 0)) some
    ∙ ap (λ p. Some p)
    (unwrap_either (point_of (get_or bytes (place_of blocks s c) 0)) Empty (point_at blank s c) some
    ∙ sym (point_at-overwritten (λ s c. point_of (get_or bytes (place_of blocks s c) 0)) blank s c h k))

-- it is a grid
numbers_spelled : (mu frame slot blocks : ℕ) (bytes : List ℕ) → mu < past_numerologies → frame < past_frames
    → slot < slots_in_frame mu
    → least_blocks ≤ blocks → blocks < past_blocks → IsGrid (spelled mu frame slot blocks bytes)
unfolding spelled overwritten
numbers_spelled mu frame slot blocks bytes h k l m n = record {
  mu_most = omega arith;
  frame_most = omega arith;
  slot_below = l;
  blocks_least = m;
  blocks_most = omega arith;
  size = length-overwritten (λ s c. point_of (get_or bytes (place_of blocks s c) 0)) (blank_grid mu frame slot blocks);
}

-- its text has these numbers, and then the bytes
spelled_text : (mu frame slot blocks : ℕ) (bytes : List ℕ) → Fits (rest_pattern blocks) bytes
    → numbers_before mu frame slot blocks bytes ≡ grid_text (spelled mu frame slot blocks bytes)
unfolding spelled overwritten
spelled_text mu frame slot blocks bytes fit =
    let grid = spelled mu frame slot blocks bytes in
    let rest = rest_is grid bytes fit (λ s c h k. point_spelled mu frame slot blocks bytes fit s c h k) in
    ap (numbers_before mu frame slot blocks) (sym rest) ∙ text_joined grid

-- a text of those is the text of a grid
pub from_fields : (text : List ℕ) → InFields text → IsGridText text
from_fields text m =
    let f = m.more in
    let s = f.more in
    let b = s.more in
    let head = codes "nrpdcch grid 1\nmu " ++ decimal m.value in
    let frames = codes " frame " ++ decimal f.value in
    let slots = codes " slot " ++ decimal s.value in
    let whole = spelled_text m.value f.value s.value b.value b.rest b.more in (
      spelled m.value f.value s.value b.value b.rest,
      record {
        legal = numbers_spelled m.value f.value s.value b.value b.rest m.high f.high s.high b.low b.high;
        text =
            sym whole ∙ ap (λ x. head ++ (frames ++ (slots ++ x))) b.is ∙ ap (λ x. head ++ (frames ++ x)) s.is
            ∙ ap (λ x. head ++ x) f.is ∙ m.is;
      },
    )
