-- Bits of the sequence in a row, one more word at a time.
use Rattle.std.proofs.Common.{◌≡◌, ℕ, ◌+◌, ◌*◌, ◌/◌, ◌%◌, ◌<◌, ◌≤◌, Bool, false, List, length, get_or, set}
use Rattle.std.proofs.Common.{inl, inr, ◌∙◌, ap, arith}
use Rattle.std.proofs.Common.{zero-add, get_or-set_same, get_or-set_other}
use Rattle.std.proofs.lemmas.Bool.{cases_eq}
use Rattle.std.proofs.lemmas.List.FromFn.{length-map-range_with_len, get_or-map-range_with_len, fill_by_all}
use Rattle.bits_core.specs.Ones.{has_one}
use Rattle.bits_core.specs.Row.{word_bit, row_bits}
use Rattle.bits_core.proofs.Rows.{length-row, get-row}
use Rattle.gold_scrambler.specs.Gold.{gold, gold_bits}
use Rattle.gold_scrambler.specs.Stretches.{HasBits, HaveBits}

-- as many bits as are asked for
pub length-gold_bits : (c place n : ℕ) → length (gold_bits c place n) ≡ n
length-gold_bits c place n = length-map-range_with_len (λ i. gold c (place + i)) 0 n

-- each of them is one of the sequence
pub get_or-gold_bits : (c place n i : ℕ) (d : Bool) → i < n → get_or (gold_bits c place n) i d ≡ gold c (place + i)
get_or-gold_bits c place n i d h = get_or-map-range_with_len (λ i. gold c (place + i)) 0 n i i d h (zero-add i)

-- one more word of the sequence
pub word_more : (x : ℕ → Bool) (n index count old new : ℕ) (words : List ℕ) (word : ℕ) → index < length words
    → old ≡ 64 * index → new ≤ 64 * (index + 1) → count + 64 * index ≡ new
    → HaveBits x n old words → HasBits x (n + old) count word
    → HaveBits x n new (set words index word)
word_more x n index count old new words word within before after fits h k = record {
  bit = λ i l. elim (cases_eq (i / 64) index) as (λ _. word_bit (set words index word) i ≡ x (n + i)) [
    | inl here ↦
        let place : n + old + i % 64 ≡ n + i = omega arith in
        ap (λ q. has_one (get_or (set words index word) q 0) (i % 64)) here
        ∙ ap (λ w. has_one w (i % 64)) (get_or-set_same words index word 0 within)
        ∙ k.bit (i % 64) (omega arith)
        ∙ ap x place
    | inr apart ↦
        ap (λ w. has_one w (i % 64)) (get_or-set_other words index (i / 64) word 0 apart) ∙ h.bit i (omega arith)
  ];
}

-- the row of words that have the bits
pub row_of_words : (c place count : ℕ) (words : List ℕ) → HaveBits (gold c) place count words
    → row_bits words count ≡ gold_bits c place count
row_of_words c place count words h =
    fill_by_all (λ i. gold c (place + i)) (row_bits words count) count false (length-row words count)
    (λ i l. get-row words count i l ∙ h.bit i l)
