-- Rows of bits by their words.
use Rattle.std.proofs.Common.{◌≡◌, ℕ, ◌+◌, ◌*◌, ◌/◌, ◌%◌, ◌^◌, ◌<◌, ◌≤◌, Bool, false, eqb, List, length, get_or, ap, sym, ◌∙◌, pow_pos}
use Rattle.std.proofs.Common.{inl, inr, arith}
use Rattle.std.proofs.lemmas.Bool.{cases_lt}
use Rattle.std.proofs.lemmas.List.{ext_get_or}
use Rattle.std.proofs.lemmas.Nat.Bits.{bit_at_above, bit_at_cat_low, bit_at-lt, same_from_bits_below}
use Rattle.std.proofs.Math.Nat.{mod-lt, div-add-mod'}
use Rattle.std.proofs.Math.ListN.{get_or-eq_default}
use Rattle.std.specs.Int.{bit_at}
use Rattle.bits_core.specs.Bits.{bit_of}
use Rattle.bits_core.specs.Ones.{has_one}
use Rattle.bits_core.specs.Row.{word_bit, row_bits}
use Rattle.bits_core.proofs.Numbers.{same_bit}
use Rattle.bits_core.proofs.Rows.{get-row, length-row}

-- the low bits of a number are those of its rest modulo a power of two
pub has_one-low : (n k i : ℕ) → i < k → has_one (n % 2 ^ k) i ≡ has_one n i
has_one-low n k i l =
    ap (λ (b : ℕ). eqb b 1)
    (sym (bit_at_cat_low (n / 2 ^ k) k (n % 2 ^ k) i l) ∙ ap (λ (m : ℕ). bit_at m i) (div-add-mod' n (2 ^ k)))

-- a number below a power of two has no bit from there on
pub has_one-above : (n k i : ℕ) → n < 2 ^ k → k ≤ i → has_one n i ≡ false
has_one-above n k i h l = ap (λ (b : ℕ). eqb b 1) (bit_at_above n k i h l)

-- zero has no bits
pub has_one-zero : (i : ℕ) → has_one 0 i ≡ false
has_one-zero i = has_one-above 0 0 i (omega arith) (omega arith)

-- two words of the same 64 bits are one
pub same_word : (a b : ℕ) → a < 2 ^ 64 → b < 2 ^ 64 → ((i : ℕ) → i < 64 → has_one a i ≡ has_one b i) → a ≡ b
same_word a b h k same =
    same_from_bits_below 64 a b h k (λ i l. same_bit (bit_at a i) (bit_at b i) (bit_at-lt a i) (bit_at-lt b i) (same i l))

-- bit i of the word at place `at`
pub word_bit-at : (words : List ℕ) (at i : ℕ) → i < 64 → word_bit words (64 * at + i) ≡ has_one (get_or words at 0) i
word_bit-at words at i l =
    let word : (64 * at + i) / 64 ≡ at = omega arith in
    let place : (64 * at + i) % 64 ≡ i = omega arith in
    ap (λ (q : ℕ). has_one (get_or words q 0) ((64 * at + i) % 64)) word ∙ ap (has_one (get_or words at 0)) place

-- words each of which holds 64 bits of a list hold the list
pub word_bit-of_words : (words : List ℕ) (bits : ℕ → Bool)
    → ((at : ℕ) → at < length words → (i : ℕ) → i < 64 → has_one (get_or words at 0) i ≡ bits (64 * at + i))
    → (i : ℕ) → i < 64 * length words → word_bit words i ≡ bits i
word_bit-of_words words bits h i l =
    let place : 64 * (i / 64) + i % 64 ≡ i = omega arith in
    h (i / 64) (omega arith) (i % 64) (omega arith) ∙ ap bits place

-- past the words there are no bits
pub word_bit-past : (words : List ℕ) (i : ℕ) → 64 * length words ≤ i → word_bit words i ≡ false
word_bit-past words i h =
    ap (λ (w : ℕ). has_one w (i % 64)) (get_or-eq_default words 0 (omega arith)) ∙ has_one-zero (i % 64)

-- a bit of the first n of packed words
pub bit_of-row : (words : List ℕ) (n i : ℕ) → i < n → bit_of (row_bits words n) i ≡ word_bit words i
bit_of-row words n i l = get-row words n i l

-- past the first n there are none
pub bit_of-row_past : (words : List ℕ) (n i : ℕ) → n ≤ i → bit_of (row_bits words n) i ≡ false
bit_of-row_past words n i l = get_or-eq_default (row_bits words n) false (omega (arith, length-row words n))

-- rows of one length and of the same words are one
pub rows_same : (size : ℕ) (a b : List Bool) → length a ≡ length b → length a ≤ 64 * size
    → ((at : ℕ) → at < size → (i : ℕ) → i < 64 → bit_of a (64 * at + i) ≡ bit_of b (64 * at + i))
    → a ≡ b
rows_same size a b e fits same =
    ext_get_or false a b e
    (λ i l.
    let place : 64 * (i / 64) + i % 64 ≡ i = omega arith in
    ap (bit_of a) (sym place) ∙ same (i / 64) (omega arith) (i % 64) (omega arith) ∙ ap (bit_of b) place)

-- equal rows have equal words
pub words_same : (a b : List Bool) (at u v : ℕ) → u < 2 ^ 64 → v < 2 ^ 64
    → ((i : ℕ) → i < 64 → has_one u i ≡ bit_of a (64 * at + i))
    → ((i : ℕ) → i < 64 → has_one v i ≡ bit_of b (64 * at + i))
    → a ≡ b → u ≡ v
words_same a b at u v h k f g e =
    same_word u v h k (λ i l. f i l ∙ ap (λ (bits : List Bool). bit_of bits (64 * at + i)) e ∙ sym (g i l))

-- a word within the row
pub word_inside : (words : List ℕ) (len at : ℕ) → at < len / 64
    → (i : ℕ) → i < 64 → has_one (get_or words at 0) i ≡ bit_of (row_bits words len) (64 * at + i)
word_inside words len at h i l = sym (bit_of-row words len (64 * at + i) (omega arith) ∙ word_bit-at words at i l)

-- the word that the row ends in
pub word_at_end : (words : List ℕ) (len at : ℕ) → at ≡ len / 64
    → (i : ℕ) → i < 64 → has_one (get_or words at 0 % 2 ^ (len % 64)) i ≡ bit_of (row_bits words len) (64 * at + i)
word_at_end words len at h i l =
    elim (cases_lt i (len % 64)) [
      | inl low ↦
          has_one-low (get_or words at 0) (len % 64) i low
          ∙ sym (bit_of-row words len (64 * at + i) (omega arith) ∙ word_bit-at words at i l)
      | inr high ↦
          has_one-above (get_or words at 0 % 2 ^ (len % 64)) (len % 64) i (mod-lt (get_or words at 0) (pow_pos (len % 64))) high
          ∙ sym (bit_of-row_past words len (64 * at + i) (omega arith))
    ]

-- a word behind the row
pub word_past : (words : List ℕ) (len at : ℕ) → len / 64 < at
    → (i : ℕ) → i < 64 → has_one 0 i ≡ bit_of (row_bits words len) (64 * at + i)
word_past words len at h i l = has_one-zero i ∙ sym (bit_of-row_past words len (64 * at + i) (omega arith))
