-- Bits that are added to the sequence word by word, and twice.
use Rattle.std.proofs.Common.{◌≡◌, ℕ, ◌+◌, ◌*◌, ◌<◌, ◌≤◌, Bool, false, List, length, sym, ◌∙◌, ap, arith, zero-add}
use Rattle.std.specs.Int.RustNames.{bit_xor}
use Rattle.std.proofs.lemmas.List.{same_lists, get_or_default}
use Rattle.std.proofs.lemmas.List.FromFn.{get_or-map-range_with_len, length-map-range_with_len, fill_by_all}
use Rattle.bits_core.specs.Bits.{plus, bit_of}
use Rattle.bits_core.specs.Ones.{has_one}
use Rattle.bits_core.specs.Row.{row_bits}
use Rattle.bits_core.proofs.Rows.{length-row, get-row}
use Rattle.bits_core.proofs.Sums.{has_one-xor, plus_cancel}
use Rattle.gold_scrambler.specs.Gold.{gold, gold_bits}
use Rattle.gold_scrambler.specs.Stretches.{HasBits, HaveBits}
use Rattle.gold_scrambler.proofs.Fills.{get_or-gold_bits}
use Rattle.dci_codec.specs.Scrambling.{scrambled_bit, scrambled}

-- the sum of two words has the sums of their bits
pub word_of_sums : (c_init : ℕ) (bits sequence : List Bool) (at count a b : ℕ) → sequence ≡ gold_bits c_init 0 (length bits)
    → count ≤ 64 → count + 64 * at ≤ length bits
    → ((i : ℕ) → i < 64 → has_one a i ≡ bit_of bits (64 * at + i))
    → ((i : ℕ) → i < 64 → has_one b i ≡ bit_of sequence (64 * at + i))
    → HasBits (scrambled_bit c_init bits) (64 * at) count (bit_xor a b)
word_of_sums c_init bits sequence at count a b is small fits h k = record {
  bit = λ i l.
      let place = 64 * at + i in
      has_one-xor a b i
      ∙ ap (λ x. plus x (has_one b i)) (h i (omega arith))
      ∙ ap (plus (bit_of bits place)) (k i (omega arith) ∙ ap (λ s. bit_of s place) is)
      ∙ ap (plus (bit_of bits place)) (get_or-gold_bits c_init 0 (length bits) place false (omega arith))
      ∙ ap (λ n. plus (bit_of bits place) (gold c_init n)) (zero-add place);
}

-- words that have the sums are the scrambled bits
pub row_of_sums : (c_init : ℕ) (bits : List Bool) (words : List ℕ)
    → HaveBits (scrambled_bit c_init bits) 0 (length bits) words
    → row_bits words (length bits) ≡ scrambled c_init bits
row_of_sums c_init bits words h =
    fill_by_all (scrambled_bit c_init bits) (row_bits words (length bits)) (length bits) false (length-row words (length bits))
    (λ i l. get-row words (length bits) i l ∙ h.bit i l ∙ ap (scrambled_bit c_init bits) (zero-add i))

-- scrambled bits are as many
pub length-scrambled : (c_init : ℕ) (bits : List Bool) → length (scrambled c_init bits) ≡ length bits
length-scrambled c_init bits = length-map-range_with_len (scrambled_bit c_init bits) 0 (length bits)

-- each is its bit, added to the sequence's
pub bit_of-scrambled : (c_init : ℕ) (bits : List Bool) (i : ℕ) → i < length bits
    → bit_of (scrambled c_init bits) i ≡ plus (bit_of bits i) (gold c_init i)
bit_of-scrambled c_init bits i h =
    get_or-map-range_with_len (scrambled_bit c_init bits) 0 (length bits) i i false h (omega arith)

-- to scramble twice is to leave the bits
pub scrambled_twice : (c_init : ℕ) (bits : List Bool) → scrambled c_init (scrambled c_init bits) ≡ bits
scrambled_twice c_init bits =
    let once = scrambled c_init bits in
    same_lists (scrambled c_init once) bits (length-scrambled c_init once ∙ length-scrambled c_init bits) (λ k d h.
    let l : k < length once = omega (arith, length-scrambled c_init once) in
    let m : k < length bits = omega (arith, length-scrambled c_init bits) in
    get_or_default (scrambled c_init once) k d false h
    ∙ bit_of-scrambled c_init once k l
    ∙ ap (λ b. plus b (gold c_init k)) (bit_of-scrambled c_init bits k m)
    ∙ plus_cancel (bit_of bits k) (gold c_init k)
    ∙ get_or_default bits k false d m)

-- bits are told by what they are scrambled to
pub scrambled_once : (c_init : ℕ) (a b : List Bool) → scrambled c_init a ≡ scrambled c_init b → a ≡ b
scrambled_once c_init a b e = sym (scrambled_twice c_init a) ∙ ap (scrambled c_init) e ∙ scrambled_twice c_init b
