-- Words that hold the points of a block.
use Rattle.std.proofs.Common.{◌≡◌, ℕ, ◌+◌, ◌-◌, ◌*◌, ◌/◌, ◌%◌, ◌^◌, ◌<◌, ◌≢◌, Bool, true, false, cond, eqb, bit_and, bit_or, w64}
use Rattle.std.proofs.Common.{List, length, get_or, set, replicate, sym, ap, ◌∙◌, inl, inr, arith}
use Rattle.std.proofs.Common.{get_or-set_same, get_or-set_other, length-set}
use Rattle.std.proofs.lemmas.Bool.{cases_eq}
use Rattle.std.proofs.lemmas.List.{get_or-replicate, length-replicate}
use Rattle.std.proofs.lemmas.List.FromFn.{length-map-range_with_len, get_or-map-range_with_len, fill_by_all}
use Rattle.std.proofs.lemmas.Nat.{mul-add-lt}
use Rattle.std.proofs.lemmas.Nat.Bits.{bit_at_set_same, bit_at_set_other, bit_at_clear_same, bit_at_clear_other}
use Rattle.std.proofs.Math.Nat.{mul_left_comm}
use Rattle.bits_core.specs.Ones.{has_one}
use Rattle.bits_core.proofs.RowWords.{has_one-zero}
use Rattle.slot_grid.specs.declared.places.Point.{Point}
use Rattle.slot_grid.specs.declared.places.Point.TheVariants.{Empty}
use Rattle.slot_grid.specs.Block.{point_with, point_in, points_in}
use Rattle.slot_grid.specs.WordWriting.{IsWith}

-- an or with its place sets a bit
pub bit_set : (word at : ℕ) (bit : Bool) → at < 64 → bit ≡ true → IsWith at bit word (bit_or word (1 * 2 ^ at % 2 ^ 64))
bit_set word at bit l e = record {
  there = ap (λ (b : ℕ). eqb b 1) (bit_at_set_same w64 word at l) ∙ sym e;
  others = λ i m ne. ap (λ (b : ℕ). eqb b 1) (bit_at_set_other w64 word at l i ne);
}

-- an and with all other places clears a bit
pub bit_cleared : (word at : ℕ) (bit : Bool) → at < 64 → bit ≡ false
    → IsWith at bit word (bit_and word (2 ^ 64 - 1 - 1 * 2 ^ at % 2 ^ 64))
bit_cleared word at bit l e = record {
  there = ap (λ (b : ℕ). eqb b 1) (bit_at_clear_same w64 word at l) ∙ sym e;
  others = λ i m ne. ap (λ (b : ℕ). eqb b 1) (bit_at_clear_other w64 word at l i m ne);
}

-- a word of zeros has no point
pub point_in-zero : (k : ℕ) → point_in 0 k ≡ Empty
point_in-zero k = ap (λ b. cond b (point_with (has_one 0 (2 * k)) (has_one 0 (2 * k + 1))) Empty) (has_one-zero (24 + k))

abbrev point_of_words : List ℕ → ℕ → Point
point_of_words words i = point_in (get_or words (i / 12) 0) (i % 12)

-- twelve points for each word
pub length-points_in : (words : List ℕ) (blocks : ℕ) → length (points_in words blocks) ≡ 14 * (12 * blocks)
length-points_in words blocks = length-map-range_with_len (point_of_words words) 0 (14 * (12 * blocks))

-- the point at a place of the list
pub get-points_in : (words : List ℕ) (blocks i : ℕ) → i < 14 * (12 * blocks)
    → get_or (points_in words blocks) i Empty ≡ point_of_words words i
get-points_in words blocks i h =
    get_or-map-range_with_len (point_of_words words) 0 (14 * (12 * blocks)) i i Empty h (omega arith)

-- where a place of a block stands in the list of points
pub place_flat : (s blocks b k : ℕ) → s * (12 * blocks) + (12 * b + k) ≡ 12 * (s * blocks + b) + k
place_flat s blocks b k = omega (arith, mul_left_comm s 12 blocks)

-- each symbol and block has a word
pub word_within : (s blocks b : ℕ) → s < 14 → b < blocks → s * blocks + b < 14 * blocks
word_within s blocks b l m = omega (arith, mul-add-lt s blocks b 14 l m)

-- the point at a place of a block
pub get-block : (words : List ℕ) (blocks at k : ℕ) → at < 14 * blocks → k < 12
    → get_or (points_in words blocks) (12 * at + k) Empty ≡ point_in (get_or words at 0) k
get-block words blocks at k l m =
    let word : (12 * at + k) / 12 ≡ at = omega arith in
    let column : (12 * at + k) % 12 ≡ k = omega arith in
    get-points_in words blocks (12 * at + k) (omega arith)
    ∙ ap (λ q. point_in (get_or words q 0) ((12 * at + k) % 12)) word
    ∙ ap (point_in (get_or words at 0)) column

-- a word with another point at one place, among the words
word_written : (words : List ℕ) (at k w : ℕ) (p : Point) → at < length words → k < 12 → point_in w k ≡ p
    → ((j : ℕ) → j < 12 → j ≢ k → point_in w j ≡ point_in (get_or words at 0) j)
    → (i : ℕ) → i ≢ 12 * at + k → point_of_words (set words at w) i ≡ point_of_words words i
word_written words at k w p within l there others i ne =
    elim (cases_eq (i / 12) at) as (λ _. point_of_words (set words at w) i ≡ point_of_words words i) [
      | inl e ↦
          let apart : i % 12 ≢ k = omega arith in
          ap (λ q. point_in (get_or (set words at w) q 0) (i % 12)) e
          ∙ ap (λ v. point_in v (i % 12)) (get_or-set_same words at w 0 within)
          ∙ others (i % 12) (omega arith) apart
          ∙ ap (λ q. point_in (get_or words q 0) (i % 12)) (sym e)
      | inr other ↦ ap (λ v. point_in v (i % 12)) (get_or-set_other words at (i / 12) w 0 other)
    ]

-- a word is replaced by one that has another point at one place: so does the list
pub set-points_in : (words : List ℕ) (blocks at k w : ℕ) (p : Point) → length words ≡ 14 * blocks → at < 14 * blocks → k < 12
    → point_in w k ≡ p → ((j : ℕ) → j < 12 → j ≢ k → point_in w j ≡ point_in (get_or words at 0) j)
    → points_in (set words at w) blocks ≡ set (points_in words blocks) (12 * at + k) p
set-points_in words blocks at k w p size h l there others =
    let n = 14 * (12 * blocks) in
    let place = 12 * at + k in
    let within : at < length words = omega (arith, size) in
    let inside : place < length (points_in words blocks) = omega (arith, length-points_in words blocks) in
    let word : place / 12 ≡ at = omega arith in
    let column : place % 12 ≡ k = omega arith in
    sym
    (fill_by_all (point_of_words (set words at w)) (set (points_in words blocks) place p) n Empty
    (length-set (points_in words blocks) place p ∙ length-points_in words blocks)
    (λ i m. elim (cases_eq i place) as
    (λ _. get_or (set (points_in words blocks) place p) i Empty ≡ point_of_words (set words at w) i) [
      | inl e ↦
          ap (λ q. get_or (set (points_in words blocks) place p) q Empty) e
          ∙ get_or-set_same (points_in words blocks) place p Empty inside
          ∙ sym there
          ∙ ap (λ v. point_in v k) (sym (get_or-set_same words at w 0 within))
          ∙ ap (λ q. point_in (get_or (set words at w) q 0) k) (sym word)
          ∙ ap (point_in (get_or (set words at w) (place / 12) 0)) (sym column)
          ∙ ap (point_of_words (set words at w)) (sym e)
      | inr ne ↦
          get_or-set_other (points_in words blocks) place i p Empty ne
          ∙ get-points_in words blocks i m
          ∙ sym (word_written words at k w p within l there others i ne)
    ]))

-- words of zeros have no point at any place
pub points_in-blank : (blocks : ℕ) → points_in (replicate (14 * blocks) 0) blocks ≡ replicate (14 * (12 * blocks)) Empty
points_in-blank blocks =
    let n = 14 * (12 * blocks) in
    let zeros : List ℕ = replicate (14 * blocks) 0 in
    sym
    (fill_by_all (point_of_words zeros) (replicate n Empty) n Empty (length-replicate n Empty)
    (λ i l.
    let within : i / 12 < 14 * blocks = omega arith in
    get_or-replicate n i Empty Empty l
    ∙ sym (ap (λ v. point_in v (i % 12)) (get_or-replicate (14 * blocks) (i / 12) 0 0 within) ∙ point_in-zero (i % 12))))
