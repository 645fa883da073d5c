-- The bits of a REG from the word of its block.
use Rattle.std.proofs.Common.{◌≡◌, ℕ, ◌+◌, ◌-◌, ◌*◌, ◌/◌, ◌%◌, ◌^◌, ◌<◌, ◌≤◌, true, false, eqb, inl, inr, sym, ap, ◌∙◌, arith}
use Rattle.std.proofs.lemmas.Bool.{cases_lt}
use Rattle.std.proofs.lemmas.Nat.Bits.{bit_at_cat_low, bit_at_cat_high, bit_at_mask_inside}
use Rattle.bits_core.specs.Ones.{has_one}
use Rattle.bits_core.proofs.RowWords.{has_one-low}
use Rattle.gold_scrambler.proofs.Stretches.{one_shr}
use Rattle.coreset_map.specs.DataPlaces.{is_reference}
use Rattle.dmrs_qpsk.specs.PointsOnGrid.{data_rank, reference_rank}
use Rattle.dmrs_qpsk.specs.WholeRegs.{IsRegRead}
use Rattle.dmrs_qpsk.proofs.BlockPlaces.{data_is, data_rank_is, which_reference, reference_rank_there}

-- a bit of some bits in the midst of a number
bit_within : (n at width i j : ℕ) → i < width → at + i ≡ j → has_one (n / 2 ^ at % 2 ^ width) i ≡ has_one n j
bit_within n at width i j l e = has_one-low (n / 2 ^ at) width i l ∙ one_shr n at i ∙ ap (has_one n) e

-- twelve ones
all_there : (word k : ℕ) → word / 2 ^ 24 % 2 ^ 12 ≡ 2 ^ 12 - 2 ^ 0 → k < 12 → has_one word (24 + k) ≡ true
all_there word k e l =
    sym (bit_within word 24 12 k (24 + k) l (omega arith))
    ∙ ap (λ n. has_one n k) e
    ∙ ap (λ d. eqb d 1) (bit_at_mask_inside 0 12 k (omega arith) l)

-- two bits of two numbers are the same
same_pair : (word references a b k rank i : ℕ) → word / 2 ^ a % 2 ^ 2 ≡ references / 2 ^ b % 2 ^ 2 → 2 * k ≡ a → 2 * rank ≡ b
    → i < 2 → has_one word (2 * k + i) ≡ has_one references (2 * rank + i)
same_pair word references a b k rank i e f g l =
    sym (bit_within word a 2 i (2 * k + i) l (omega (arith, f)))
    ∙ ap (λ n. has_one n i) e
    ∙ bit_within references b 2 i (2 * rank + i) l (omega (arith, g))

-- the six reference bits stand at their places
pub references_there : (word references k i : ℕ) → word / 2 ^ 2 % 2 ^ 2 ≡ references / 2 ^ 0 % 2 ^ 2
    → word / 2 ^ 10 % 2 ^ 2 ≡ references / 2 ^ 2 % 2 ^ 2 → word / 2 ^ 18 % 2 ^ 2 ≡ references / 2 ^ 4 % 2 ^ 2
    → is_reference k ≡ true → i < 2 → has_one word (2 * k + i) ≡ has_one references (2 * reference_rank k + i)
references_there word references k i e f g r l =
    let rank = reference_rank_there k r in
    elim (which_reference k r) [
      | inl a ↦ same_pair word references 2 0 k (reference_rank k) i e (omega (arith, a)) (omega (arith, rank, a)) l
      | inr s ↦ elim s [
        | inl a ↦ same_pair word references 10 2 k (reference_rank k) i f (omega (arith, a)) (omega (arith, rank, a)) l
        | inr a ↦ same_pair word references 18 4 k (reference_rank k) i g (omega (arith, a)) (omega (arith, rank, a)) l
      ]
    ]

-- the data bits of a block's word, one after the other
abbrev data_of : ℕ → ℕ
data_of word =
    (word / 2 ^ 20 % 2 ^ 4 * 2 ^ 6 + word / 2 ^ 12 % 2 ^ 6) * 2 ^ 8 + (word / 2 ^ 4 % 2 ^ 6 * 2 ^ 2 + word / 2 ^ 0 % 2 ^ 2)

low_part : (word : ℕ) → word / 2 ^ 4 % 2 ^ 6 * 2 ^ 2 + word / 2 ^ 0 % 2 ^ 2 < 2 ^ 8
low_part word = omega arith

-- bits 0 to 7 of them, and the others
in_low_part : (word i : ℕ) → i < 8 → has_one (data_of word) i ≡ has_one (word / 2 ^ 4 % 2 ^ 6 * 2 ^ 2 + word / 2 ^ 0 % 2 ^ 2) i
in_low_part word i l =
    ap (λ d. eqb d 1)
    (bit_at_cat_low (word / 2 ^ 20 % 2 ^ 4 * 2 ^ 6 + word / 2 ^ 12 % 2 ^ 6) 8
    (word / 2 ^ 4 % 2 ^ 6 * 2 ^ 2 + word / 2 ^ 0 % 2 ^ 2) i l)

in_high_part : (word i : ℕ) → 8 ≤ i
    → has_one (data_of word) i ≡ has_one (word / 2 ^ 20 % 2 ^ 4 * 2 ^ 6 + word / 2 ^ 12 % 2 ^ 6) (i - 8)
in_high_part word i l =
    ap (λ d. eqb d 1)
    (bit_at_cat_high (word / 2 ^ 20 % 2 ^ 4 * 2 ^ 6 + word / 2 ^ 12 % 2 ^ 6) 8
    (word / 2 ^ 4 % 2 ^ 6 * 2 ^ 2 + word / 2 ^ 0 % 2 ^ 2) i (low_part word) l)

-- the bits of the first data place, of the next three, of three more, and of the last two
first_place : (word i j : ℕ) → i < 2 → i ≡ j → has_one (data_of word) i ≡ has_one word j
first_place word i j l e =
    in_low_part word i (omega arith)
    ∙ ap (λ d. eqb d 1) (bit_at_cat_low (word / 2 ^ 4 % 2 ^ 6) 2 (word / 2 ^ 0 % 2 ^ 2) i l)
    ∙ bit_within word 0 2 i j l (omega (arith, e))

second_places : (word i j : ℕ) → 2 ≤ i → i < 8 → i + 2 ≡ j → has_one (data_of word) i ≡ has_one word j
second_places word i j l m e =
    in_low_part word i m
    ∙ ap (λ d. eqb d 1) (bit_at_cat_high (word / 2 ^ 4 % 2 ^ 6) 2 (word / 2 ^ 0 % 2 ^ 2) i (omega arith) l)
    ∙ bit_within word 4 6 (i - 2) j (omega arith) (omega (arith, e))

third_places : (word i j : ℕ) → 8 ≤ i → i < 14 → i + 4 ≡ j → has_one (data_of word) i ≡ has_one word j
third_places word i j l m e =
    in_high_part word i l
    ∙ ap (λ d. eqb d 1) (bit_at_cat_low (word / 2 ^ 20 % 2 ^ 4) 6 (word / 2 ^ 12 % 2 ^ 6) (i - 8) (omega arith))
    ∙ bit_within word 12 6 (i - 8) j (omega arith) (omega (arith, e))

last_places : (word i j : ℕ) → 14 ≤ i → i < 18 → i + 6 ≡ j → has_one (data_of word) i ≡ has_one word j
last_places word i j l m e =
    in_high_part word i (omega arith)
    ∙ ap (λ d. eqb d 1)
    (bit_at_cat_high (word / 2 ^ 20 % 2 ^ 4) 6 (word / 2 ^ 12 % 2 ^ 6) (i - 8) (omega arith) (omega arith))
    ∙ bit_within word 20 4 (i - 8 - 6) j (omega arith) (omega (arith, e))

-- each data place has its two bits
pub data_bit : (word k i : ℕ) → k < 12 → is_reference k ≡ false → i < 2
    → has_one (data_of word) (2 * data_rank k + i) ≡ has_one word (2 * k + i)
data_bit word k i l e m =
    let d = data_is k e in
    let rank = data_rank_is k (omega arith) in
    let at = 2 * data_rank k + i in
    elim (cases_lt k 1) [
      | inl a ↦ first_place word at (2 * k + i) (omega (arith, rank)) (omega (arith, rank))
      | inr a ↦ elim (cases_lt k 5) [
        | inl b ↦ second_places word at (2 * k + i) (omega (arith, rank, d)) (omega (arith, rank, d)) (omega (arith, rank, d))
        | inr b ↦ elim (cases_lt k 9) [
          | inl h ↦ third_places word at (2 * k + i) (omega (arith, rank, d)) (omega (arith, rank, d)) (omega (arith, rank, d))
          | inr h ↦ last_places word at (2 * k + i) (omega (arith, rank, d)) (omega (arith, rank, d)) (omega (arith, rank, d))
        ]
      ]
    ]

-- a word in which all twelve points are there and the reference bits are the wanted ones is that of a REG
pub reg_read : (word references : ℕ) → word / 2 ^ 24 % 2 ^ 12 ≡ 2 ^ 12 - 2 ^ 0
    → word / 2 ^ 2 % 2 ^ 2 ≡ references / 2 ^ 0 % 2 ^ 2
    → word / 2 ^ 10 % 2 ^ 2 ≡ references / 2 ^ 2 % 2 ^ 2 → word / 2 ^ 18 % 2 ^ 2 ≡ references / 2 ^ 4 % 2 ^ 2
    → (packed : ℕ) → packed ≡ data_of word → IsRegRead word references packed
reg_read word references whole e f g packed is = record {
  there = λ k l. all_there word k whole l;
  reference = λ k i r l. references_there word references k i e f g r l;
  bit = λ k i l r m. sym (ap (λ n. has_one n (2 * data_rank k + i)) is ∙ data_bit word k i l r m);
  small = omega (arith, is);
}

-- the word of a REG's bits and of reference bits
abbrev word_with : ℕ → ℕ → ℕ
word_with packed references =
    packed % 4 + 4 * (references % 4) + 16 * (packed / 4 % 64)
    + 1024 * (references / 4 % 4 + 4 * (packed / 256 % 64) + 256 * (references / 16 % 4))
    + 1048576 * (packed / 16384 + 16 * 4095)

-- it is a REG's word with these bits
pub reg_made : (packed references word : ℕ) → packed < 2 ^ 18 → word ≡ word_with packed references
    → IsRegRead word references packed
reg_made packed references word small is =
    reg_read word references (omega (arith, small, is)) (omega (arith, small, is)) (omega (arith, small, is))
    (omega (arith, small, is)) packed (omega (arith, small, is))
