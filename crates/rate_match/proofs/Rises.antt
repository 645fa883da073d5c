-- The order of sending rises with the binary ones: a position whose ones contain those of another is sent after it.
use Rattle.std.proofs.Common.{ℕ, ◌≡◌, ◌+◌, ◌*◌, ◌/◌, ◌%◌, ◌^◌, ◌<◌, ◌≤◌, Bool, true, false, not, ◌||◌, [], get_or, leb}
use Rattle.std.proofs.Common.{map, refl, subst, sym, ◌∙◌, inl, inr, arith}
use Rattle.std.specs.Prelude.{IsTrue, bit_and}
use Rattle.std.specs.List.{range_with_len}
use Rattle.std.proofs.lemmas.Bool.{and_parts, leb-true}
use Rattle.std.proofs.lemmas.Bool.Decides.{eqb_tells}
use Rattle.std.proofs.lemmas.Nat.{and_le_l, div-add-mod'}
use Rattle.std.proofs.Math.Nat.{mod-lt, mul-le-mul_right}
use Rattle.bits_core.specs.CodeLengths.{is_code_length}
use Rattle.bits_core.specs.Ones.{contains_ones}
use Rattle.bits_core.proofs.CodeLengths.{by_lengths}
use Rattle.bits_core.proofs.Ones.{contains_block}
use Rattle.rate_match.specs.SubblockOrder.{subblock_order, position_at}
use Rattle.rate_match.proofs.Subblocks.{in_subblocks}
use Rattle.rate_match.proofs.Places.{subblock_below, place_below, place_of, position_at-place_of, position_reordered, reordered}
use Rattle.rate_match.proofs.Places.{same_at}

-- of two turns, the sub-block of the later one lacks a one of the earlier's, or is later
abbrev row_rises : ℕ → ℕ → Bool
row_rises a b = not (contains_ones (get_or subblock_order b 0) (get_or subblock_order a 0)) || leb a b

table_rises : map (λ a. map (row_rises a) (range_with_len 0 32)) (range_with_len 0 32)
    ≡ map (λ a. map (λ b. true) (range_with_len 0 32)) (range_with_len 0 32)
unfolding contains_ones
table_rises = refl

row_at : (a b : ℕ) → a < 32 → b < 32 → row_rises a b ≡ true
row_at a b h l =
    same_at (row_rises a) (λ b. true) 32 b false
    (same_at (λ a. map (row_rises a) (range_with_len 0 32)) (λ a. map (λ b. true) (range_with_len 0 32)) 32 a [] table_rises h) l

later : (c l : Bool) → (not c || l) ≡ true → c ≡ true → l ≡ true
later true l h e = h
later false l h e = absurd (let f : false ≡ true = e in cc)

subblock_rises : (a b : ℕ) → a < 32 → b < 32
    → IsTrue (contains_ones (get_or subblock_order b 0) (get_or subblock_order a 0)) → a ≤ b
subblock_rises a b h l c =
    leb-true a b (later (contains_ones (get_or subblock_order b 0) (get_or subblock_order a 0)) (leb a b) (row_at a b h l) c)

-- a number whose ones contain those of another is no less
contains_le : (i j : ℕ) → IsTrue (contains_ones i j) → j ≤ i
unfolding contains_ones
contains_le i j h =
    elim (eqb_tells (bit_and i j) j) [
      | inl e ↦ subst (λ (x : ℕ). x ≤ i) e.1 (and_le_l i j)
      | inr e ↦ absurd (let f : true ≡ false = sym h ∙ e.0 in cc)
    ]

-- places in two sub-blocks of the same width rise where the sub-blocks and the places in them do
subblock_le : (w a b r s : ℕ) → a ≤ b → r ≤ s → a * w + r ≤ b * w + s
subblock_le w a b r s h l = let m = mul-le-mul_right w h in omega arith

-- the width of the sub-blocks is a power of two
record IsWidth (n : ℕ) : Type 0 where
  exponent : ℕ
  width : n / 32 ≡ 2 ^ exponent

width_of : (n : ℕ) → IsTrue (is_code_length n) → IsWidth n
width_of =
    by_lengths IsWidth
    (record { exponent = 0; width = refl })
    (record { exponent = 1; width = refl })
    (record { exponent = 2; width = refl })
    (record { exponent = 3; width = refl })
    (record { exponent = 4; width = refl })

contains_reordered : (k a b r s : ℕ) → r < 2 ^ k → s < 2 ^ k → IsTrue (contains_ones (b * 2 ^ k + s) (a * 2 ^ k + r)) →
    IsTrue (contains_ones b a) × IsTrue (contains_ones s r)
contains_reordered k a b r s h l c =
    and_parts (contains_ones b a) (contains_ones s r) (sym (contains_block k b a s r l h) ∙ c)

reordered_rises : (k w m p : ℕ) → w ≡ 2 ^ k → 0 < w → m < w * 32 → p < w * 32 →
    IsTrue (contains_ones (reordered subblock_order w p) (reordered subblock_order w m)) → m ≤ p
reordered_rises k w m p e h l g c =
    let r : m % w < w = mod-lt m h in
    let s : p % w < w = mod-lt p h in
    let both =
    contains_reordered k (get_or subblock_order (m / w) 0) (get_or subblock_order (p / w) 0) (m % w) (p % w) (omega arith)
    (omega arith)
    (subst (λ (x : ℕ). IsTrue
    (contains_ones (get_or subblock_order (p / w) 0 * x + p % w) (get_or subblock_order (m / w) 0 * x + m % w))) e c)
    in
    let blocks = subblock_rises (m / w) (p / w) (subblock_below w m h l) (subblock_below w p h g) both.0 in
    let le = subblock_le w (m / w) (p / w) (m % w) (p % w) blocks (contains_le (p % w) (m % w) both.1) in
    let first = div-add-mod' m w in
    let second = div-add-mod' p w in
    omega arith

-- of two places, the one whose position has the ones of the other's and more is no earlier
pub position_rises : (n m p : ℕ) → IsTrue (is_code_length n) → m < n → p < n →
    IsTrue (contains_ones (position_at n p) (position_at n m)) → m ≤ p
position_rises n m p h l g c =
    let b = in_subblocks n h in
    let width = width_of n h in
    let moved : IsTrue (contains_ones (reordered subblock_order (n / 32) p) (reordered subblock_order (n / 32) m)) =
    subst (λ (x : ℕ). IsTrue (contains_ones x (reordered subblock_order (n / 32) m))) (position_reordered n p b)
    (subst (λ (x : ℕ). IsTrue (contains_ones (position_at n p) x)) (position_reordered n m b) c)
    in
    reordered_rises width.exponent (n / 32) m p width.width b.some (rw b.whole l) (rw b.whole g) moved

-- so the places of two positions rise with their ones
pub place_rises : (n i j : ℕ) → IsTrue (is_code_length n) → i < n → j < n → IsTrue (contains_ones i j)
    → place_of n j ≤ place_of n i
place_rises n i j h l g c =
    position_rises n (place_of n j) (place_of n i) h (place_below n j h g) (place_below n i h l)
    (subst (λ (x : ℕ). IsTrue (contains_ones x (position_at n (place_of n j)))) (sym (position_at-place_of n i h l))
    (subst (λ (x : ℕ). IsTrue (contains_ones i x)) (sym (position_at-place_of n j h g)) c))
