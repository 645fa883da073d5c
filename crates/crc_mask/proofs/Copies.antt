-- Rows that are copied by their words.
use Rattle.std.proofs.Common.{◌≡◌, ℕ, zero, suc, ◌+◌, ◌*◌, ◌<◌, ◌≤◌, Bool, false, List, [], ◌∷◌, length, take}
use Rattle.std.proofs.Common.{get_or, sym, ◌∙◌, arith}
use Rattle.std.proofs.lemmas.List.{ext_get_or, get_or-take, take_all, get_or_past, length-take}
use Rattle.bits_core.specs.Bits.{bit_of}
use Rattle.bits_core.specs.Ones.{has_one}
use Rattle.bits_core.specs.Row.{row_bits}
use Rattle.bits_core.proofs.Rows.{length-row, get-row}
use Rattle.bits_core.proofs.RowWords.{word_bit-of_words, has_one-zero}

-- a word holds the 64 bits of a row from its place on
pub record Holds (word : ℕ) (bits : List Bool) (at : ℕ) : Type 0 where
  pub each : (i : ℕ) → i < 64 → has_one word i ≡ bit_of bits (64 * at + i)

-- words that hold the bits of a row begin with its bits
copied : (words : List ℕ) (bits : List Bool) (size : ℕ) → size ≤ length bits → size ≤ 64 * length words
    → ((at : ℕ) → at < length words → Holds (get_or words at 0) bits at) → row_bits words size ≡ take size bits
copied words bits size within fits holds =
    let sizes : length (row_bits words size) ≡ length (take size bits) =
    omega (arith, length-row words size, length-take size bits)
    in
    ext_get_or false (row_bits words size) (take size bits) sizes
    (λ i l.
    let below : i < size = omega (arith, length-row words size) in
    get-row words size i below
    ∙ word_bit-of_words words (bit_of bits) (λ at h. (holds at h).each) i (omega arith)
    ∙ sym (get_or-take size bits i false below))

two : (a b : ℕ) (bits : List Bool) → Holds a bits 0 → Holds b bits 1
    → (at : ℕ) → at < 2 → Holds (get_or (a ∷ b ∷ []) at 0) bits at
two a b bits first second zero h = first
two a b bits first second (suc zero) h = second
two a b bits first second (suc (suc at)) h = absurd (omega arith)

three : (a b : ℕ) (bits : List Bool) → Holds a bits 0 → Holds b bits 1 → length bits ≤ 128
    → (at : ℕ) → at < 3 → Holds (get_or (a ∷ b ∷ 0 ∷ []) at 0) bits at
three a b bits first second fits zero h = first
three a b bits first second fits (suc zero) h = second
three a b bits first second fits (suc (suc zero)) h = record {
  each = λ i l. has_one-zero i ∙ sym (get_or_past bits (64 * 2 + i) false (omega arith));
}
three a b bits first second fits (suc (suc (suc at))) h = absurd (omega arith)

-- two words of a row
pub copied_two : (a b : ℕ) (bits : List Bool) (size : ℕ) → size ≤ length bits → size ≤ 128 → Holds a bits 0 → Holds b bits 1
    → row_bits (a ∷ b ∷ []) size ≡ take size bits
copied_two a b bits size within fits first second =
    copied (a ∷ b ∷ []) bits size within fits (two a b bits first second)

-- two words of a row that has no more, and a word of zeros
pub copied_three : (a b : ℕ) (bits : List Bool) (size : ℕ) → size ≡ length bits → size ≤ 128 → Holds a bits 0 → Holds b bits 1
    → row_bits (a ∷ b ∷ 0 ∷ []) size ≡ bits
copied_three a b bits size all fits first second =
    copied (a ∷ b ∷ 0 ∷ []) bits size (omega arith) (omega arith) (three a b bits first second (omega arith))
    ∙ take_all size bits (omega arith)
