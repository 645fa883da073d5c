-- The points of the word of a REG are those of its bits and of the reference points.
use Rattle.std.proofs.Common.{◌≡◌, ℕ, ◌+◌, ◌*◌, ◌<◌, ◌≤◌, Bool, true, false, cond, List, refl, sym, ◌∙◌, ap, arith}
use Rattle.bits_core.specs.Bits.{bit_of}
use Rattle.bits_core.specs.Ones.{has_one}
use Rattle.gold_scrambler.specs.Gold.{gold}
use Rattle.gold_scrambler.specs.Stretches.{HasBits}
use Rattle.slot_grid.specs.declared.places.Point.TheVariants.{Empty}
use Rattle.slot_grid.specs.Block.{point_with, point_in}
use Rattle.coreset_map.specs.DataPlaces.{is_reference}
use Rattle.dmrs_qpsk.specs.Modulation.{point_of}
use Rattle.dmrs_qpsk.specs.PointsOnGrid.{data_rank, reference_rank, reg_point}
use Rattle.dmrs_qpsk.specs.ReferencePoints.{reference, reference_start}
use Rattle.dmrs_qpsk.specs.WholeRegs.{IsRegRead}
use Rattle.dmrs_qpsk.proofs.BlockPlaces.{data_is, data_rank_is, reference_rank_there, reference_number_small}
use Rattle.dmrs_qpsk.proofs.RegPoints.{reference_there, data_there}

-- the point of two bits, by either definition
one_modulation : (a b : Bool) → point_with a b ≡ point_of a b
one_modulation false false = refl
one_modulation false true = refl
one_modulation true false = refl
one_modulation true true = refl

-- the point of a word at a place where there is one
point_of_bits : (word k : ℕ) (a b : Bool) → has_one word (24 + k) ≡ true → has_one word (2 * k) ≡ a → has_one word (2 * k + 1) ≡ b
    → point_in word k ≡ point_of a b
point_of_bits word k a b there first second =
    ap (λ t. cond t (point_with (has_one word (2 * k)) (has_one word (2 * k + 1))) Empty) there
    ∙ ap (λ t. point_with t (has_one word (2 * k + 1))) first
    ∙ ap (point_with a) second
    ∙ one_modulation a b

-- a reference place has its reference point
reference_in_word : (slot symbol id block word references packed k : ℕ) → is_reference k ≡ true → k < 12
    → HasBits (gold (reference_start slot symbol id)) (6 * block) 6 references → IsRegRead word references packed
    → point_in word k ≡ reference slot symbol id block (reference_rank k)
unfolding reference
reference_in_word slot symbol id block word references packed k e l wanted h =
    let start = reference_start slot symbol id in
    let rank = reference_rank k in
    let small : rank ≤ 2 = omega (arith, reference_rank_there k e, reference_number_small k e) in
    let here : 2 * k + 0 ≡ 2 * k = omega arith in
    let first : 6 * block + (2 * rank + 0) ≡ 2 * (3 * block + rank) = omega arith in
    let second : 6 * block + (2 * rank + 1) ≡ 2 * (3 * block + rank) + 1 = omega arith in
    point_of_bits word k (gold start (2 * (3 * block + rank))) (gold start (2 * (3 * block + rank) + 1)) (h.there k l)
    (ap (has_one word) (sym here)
    ∙ h.reference k 0 e (omega arith)
    ∙ wanted.bit (2 * rank + 0) (omega arith)
    ∙ ap (gold start) first)
    (h.reference k 1 e (omega arith) ∙ wanted.bit (2 * rank + 1) (omega arith) ∙ ap (gold start) second)

-- a data place has the point of its two bits
data_in_word : (word references packed j k : ℕ) (bits : List Bool) → is_reference k ≡ false → k < 12
    → IsRegRead word references packed → HasBits (bit_of bits) (18 * j) 18 packed
    → point_in word k ≡ point_of (bit_of bits (18 * j + 2 * data_rank k)) (bit_of bits (18 * j + 2 * data_rank k + 1))
data_in_word word references packed j k bits e l h row =
    let d = data_is k e in
    let rank = data_rank_is k (omega arith) in
    let at = 2 * data_rank k in
    let within : at + 1 < 18 = omega (arith, rank, d) in
    let here : 2 * k + 0 ≡ 2 * k = omega arith in
    let first : at + 0 ≡ at = omega arith in
    let second : 18 * j + (at + 1) ≡ 18 * j + at + 1 = omega arith in
    point_of_bits word k (bit_of bits (18 * j + at)) (bit_of bits (18 * j + at + 1)) (h.there k l)
    (ap (has_one word) (sym here) ∙ h.bit k 0 l e (omega arith) ∙ ap (has_one packed) first ∙ row.bit at (omega arith))
    (h.bit k 1 l e (omega arith) ∙ row.bit (at + 1) within ∙ ap (bit_of bits) second)

point_by : (slot symbol id block word references packed j k : ℕ) (bits : List Bool) (t : Bool) → is_reference k ≡ t → k < 12
    → HasBits (gold (reference_start slot symbol id)) (6 * block) 6 references → IsRegRead word references packed
    → HasBits (bit_of bits) (18 * j) 18 packed
    → point_in word k ≡ reg_point slot symbol id block bits j k
point_by slot symbol id block word references packed j k bits true e l wanted h row =
    reference_in_word slot symbol id block word references packed k e l wanted h
    ∙ sym (reference_there slot symbol id block bits j k e)
point_by slot symbol id block word references packed j k bits false e l wanted h row =
    data_in_word word references packed j k bits e l h row
    ∙ sym (data_there slot symbol id block bits j k e)

-- each place of a word with the bits of REG j and the reference bits of its block has the point of this REG
pub point_in_reg : (slot symbol id block word references packed j : ℕ) (bits : List Bool)
    → HasBits (gold (reference_start slot symbol id)) (6 * block) 6 references → IsRegRead word references packed
    → HasBits (bit_of bits) (18 * j) 18 packed
    → (k : ℕ) → k < 12 → point_in word k ≡ reg_point slot symbol id block bits j k
point_in_reg slot symbol id block word references packed j bits wanted h row k l =
    point_by slot symbol id block word references packed j k bits (is_reference k) refl l wanted h row
