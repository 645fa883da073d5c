-- One bit more is laid, or read.
use Rattle.std.proofs.Common.{ℕ, ◌≡◌, ◌≢◌, ◌+◌, ◌*◌, ◌/◌, ◌%◌, ◌^◌, ◌<◌, ◌≤◌, ◌||◌, Bool, true, false, List, length, set, get_or}
use Rattle.std.proofs.Common.{ap, refl, sym, subst, ◌∙◌, ◌-◌, arith, below_more, bit_or, inl, inr}
use Rattle.std.proofs.Common.{get_or-set_other, get_or-set_same}
use Rattle.std.proofs.Math.Bool.{or-false}
use Rattle.std.specs.Prelude.{IsTrue, slice_index}
use Rattle.std.specs.Int.{from_bool}
use Rattle.std.proofs.lemmas.Bool.{cases_eq, cases_lt}
use Rattle.bits_core.specs.Ones.{has_one}
use Rattle.bits_core.specs.Row.{word_bit}
use Rattle.bits_core.specs.RowWriting.{IsWritten}
use Rattle.bits_core.proofs.Numbers.{from_bool_lt}
use Rattle.bits_core.proofs.RowWords.{has_one-above, has_one-low}
use Rattle.table_files.specs.Permutation.{IsTable}
use Rattle.table_files.proofs.Places.{table_inside, table_once}
use Rattle.list_facts.specs.Counting.{count_below}
use Rattle.list_facts.proofs.Counting.{count_before, count_more, count_no_more}
use Rattle.rate_match.proofs.ShiftedBits.{has_one-or, has_one-shl, has_one-shl_below}
use Rattle.rate_match.proofs.WrittenWords.{word_bit-set_other, word_bit-set_same}

-- a position that carries a bit has one of those left
pub turn_below : (n k at turn : ℕ) (info : ℕ → Bool) → turn ≡ count_below at info → at < n → info at ≡ true
    → count_below n info ≤ k → turn < k
turn_below n k at turn info e l t few = let before = count_before n at info l t in omega arith

-- the count where a position carries a bit
pub one_more_turn : (at turn : ℕ) (info : ℕ → Bool) → turn ≡ count_below at info → info at ≡ true
    → turn + 1 ≡ count_below (at + 1) info
one_more_turn at turn info e t = ap (λ (x : ℕ). x + 1) e ∙ sym (count_more at info t)

-- the count where it carries none
pub no_more_turn : (at turn : ℕ) (info : ℕ → Bool) → turn ≡ count_below at info → info at ≡ false
    → turn ≡ count_below (at + 1) info
no_more_turn at turn info e f = e ∙ sym (count_no_more at info f)

-- a position that carries a bit is kept for it
pub carrier_kept : (k : ℕ) (order carriers : List ℕ) (info : ℕ → Bool) (at turn : ℕ) → IsTable k order →
    k ≤ length carriers → turn ≡ count_below at info → turn < k →
    ((p : ℕ) → p < at → IsTrue (info p) → slice_index carriers (slice_index order (count_below p info)) ≡ p) →
    (p : ℕ) → p < at + 1 → IsTrue (info p) →
    slice_index (set carriers (slice_index order turn) at) (slice_index order (count_below p info)) ≡ p
carrier_kept k order carriers info at turn o long e few before =
    let inside : slice_index order turn < length carriers = (let b = table_inside k order turn o few in omega arith) in
    below_more
    (λ p. IsTrue (info p) → slice_index (set carriers (slice_index order turn) at) (slice_index order (count_below p info))
    ≡ p) at
    (λ p b h.
    let earlier = count_before at p info b h in
    let other : slice_index order turn ≢ slice_index order (count_below p info) =
    λ same. (let once = table_once k order turn (count_below p info) o few (omega arith) same in omega arith)
    in
    get_or-set_other carriers (slice_index order turn) (slice_index order (count_below p info)) at 0
    (λ same. other (sym same)) ∙ before p b h)
    (λ h.
    ap (λ (x : ℕ). slice_index (set carriers (slice_index order turn) at) (slice_index order x)) (sym e)
    ∙ get_or-set_same carriers (slice_index order turn) at 0 inside)

-- one that carries none is passed
pub carriers_pass : (order carriers : List ℕ) (info : ℕ → Bool) (at : ℕ) → info at ≡ false →
    ((p : ℕ) → p < at → IsTrue (info p) → slice_index carriers (slice_index order (count_below p info)) ≡ p) →
    (p : ℕ) → p < at + 1 → IsTrue (info p) → slice_index carriers (slice_index order (count_below p info)) ≡ p
carriers_pass order carriers info at f before =
    below_more (λ p. IsTrue (info p) → slice_index carriers (slice_index order (count_below p info)) ≡ p) at before
    (λ h. absurd (let wrong : true ≡ false = sym h ∙ f in cc))

digit_bit : (bit : Bool) → has_one (from_bool bit) 0 ≡ bit
digit_bit true = refl
digit_bit false = refl

-- a bit is put where 0 stands
pub bit_put : (words : List ℕ) (at : ℕ) (bit : Bool) (digit : ℕ) → at < 64 * length words → word_bit words at ≡ false
    → digit ≡ from_bool bit
    → IsWritten at bit words (set words (at / 64) (bit_or (get_or words (at / 64) 0) (digit * 2 ^ (at % 64) % 2 ^ 64)))
bit_put words at bit digit h free is =
    let q = at / 64 in
    let s = at % 64 in
    let word = get_or words q 0 in
    let new = bit_or word (digit * 2 ^ s % 2 ^ 64) in
    let inside : q < length words = omega arith in
    let small : digit < 2 ^ 1 = subst (λ (x : ℕ). x < 2) (sym is) (from_bool_lt bit) in
    let bits : (i : ℕ) → i < 64 → has_one new i ≡ (has_one word i || has_one (digit * 2 ^ s) i) =
    λ i l.
    has_one-or word (digit * 2 ^ s % 2 ^ 64) i
    ∙ ap (λ (b : Bool). has_one word i || b) (has_one-low (digit * 2 ^ s) 64 i l) in
    let kept : (i : ℕ) → i / 64 ≡ q → has_one (digit * 2 ^ s) (i % 64) ≡ false
    → word_bit (set words q new) i ≡ word_bit words i =
    λ i e z.
    word_bit-set_same words q new i e inside
    ∙ bits (i % 64) (omega arith)
    ∙ ap (λ (b : Bool). has_one word (i % 64) || b) z
    ∙ or-false (has_one word (i % 64))
    ∙ ap (λ (p : ℕ). has_one (get_or words p 0) (i % 64)) (sym e) in
    let back : s - s ≡ 0 = omega arith in
    record {
      there =
          word_bit-set_same words q new at refl inside
          ∙ bits s (omega arith)
          ∙ ap (λ (b : Bool). b || has_one (digit * 2 ^ s) s) free
          ∙ has_one-shl digit s s (omega arith)
          ∙ ap (has_one digit) back
          ∙ ap (λ (d : ℕ). has_one d 0) is
          ∙ digit_bit bit;
      others =
          λ i ne.
          elim (cases_eq (i / 64) q) [
            | inr other ↦ word_bit-set_other words q new i other
            | inl e ↦ elim (cases_lt (i % 64) s) [
              | inl low ↦ kept i e (has_one-shl_below digit s (i % 64) low)
              | inr high ↦
                  kept i e
                  (has_one-shl digit s (i % 64) high ∙ has_one-above digit 1 (i % 64 - s) small (omega (arith, e, ne, high)))
            ]
          ];
    }
