-- The bits of words that are shifted and joined.
use Rattle.std.proofs.Common.{◌≡◌, ℕ, ◌+◌, ◌-◌, ◌*◌, ◌/◌, ◌%◌, ◌^◌, ◌<◌, ◌≤◌, Bool, false, ◌||◌, eqb, zero, suc, max}
use Rattle.std.proofs.Common.{refl, ap, sym, ◌∙◌, inl, inr, arith, bit_or, add-zero}
use Rattle.std.proofs.Math.Bool.{or-false}
use Rattle.std.proofs.lemmas.Nat.Bits.{bit_at-lt, bit_at_or, bit_at_cat_low, bit_at_cat_high}
use Rattle.std.proofs.lemmas.Nat.{mod_below, shr-shr, pow_pos}
use Rattle.std.specs.Int.{bit_at}
use Rattle.bits_core.specs.Ones.{has_one}
use Rattle.std.proofs.lemmas.Bool.{cases_lt}
use Rattle.std.proofs.lemmas.Nat.{and_mask}
use Rattle.std.specs.Prelude.{List, [], ◌∷◌, bit_and}
use Rattle.bits_core.specs.Row.{word_bit}
use Rattle.bits_core.proofs.RowWords.{has_one-zero, has_one-low, has_one-above, word_bit-at}

-- below a shift up there are zeros
pub has_one-shl_below : (n s i : ℕ) → i < s → has_one (n * 2 ^ s) i ≡ false
has_one-shl_below n s i l =
    ap (λ (m : ℕ). has_one m i) (sym (add-zero (n * 2 ^ s)))
    ∙ ap (λ (b : ℕ). eqb b 1) (bit_at_cat_low n s 0 i l) ∙ has_one-zero i

-- and from it on there are the bits
pub has_one-shl : (n s i : ℕ) → s ≤ i → has_one (n * 2 ^ s) i ≡ has_one n (i - s)
has_one-shl n s i l =
    ap (λ (m : ℕ). has_one m i) (sym (add-zero (n * 2 ^ s)))
    ∙ ap (λ (b : ℕ). eqb b 1) (bit_at_cat_high n s 0 i (pow_pos s) l)

either : (a b : ℕ) → a < 2 → b < 2 → eqb (max a b) 1 ≡ (eqb a 1 || eqb b 1)
either zero zero h k = refl
either zero (suc zero) h k = refl
either (suc zero) zero h k = refl
either (suc zero) (suc zero) h k = refl
either zero (suc (suc b)) h k = absurd (omega arith)
either (suc zero) (suc (suc b)) h k = absurd (omega arith)
either (suc (suc a)) b h k = absurd (omega arith)

-- a bit of two words joined by or
pub has_one-or : (a b i : ℕ) → has_one (bit_or a b) i ≡ (has_one a i || has_one b i)
has_one-or a b i =
    ap (λ (m : ℕ). eqb m 1) (bit_at_or a b i) ∙ either (bit_at a i) (bit_at b i) (bit_at-lt a i) (bit_at-lt b i)

-- two words joined at a place
pub joined_bits : (low high s : ℕ) → low < 2 ^ 64 → 0 < s → s < 64 → (i : ℕ) → i < 64
    → has_one (bit_or (low / 2 ^ s) (high * 2 ^ (64 - s) % 2 ^ 64)) i ≡ word_bit (low ∷ high ∷ []) (s + i)
joined_bits low high s h p l i k =
    let words : List ℕ = low ∷ high ∷ [] in
    let both : has_one (bit_or (low / 2 ^ s) (high * 2 ^ (64 - s) % 2 ^ 64)) i
    ≡ (has_one low (s + i) || has_one (high * 2 ^ (64 - s)) i) =
    has_one-or (low / 2 ^ s) (high * 2 ^ (64 - s) % 2 ^ 64) i
    ∙ ap (λ (b : Bool). b || has_one (high * 2 ^ (64 - s) % 2 ^ 64) i) (ap (λ (m : ℕ). eqb (m % 2) 1) (shr-shr low s i))
    ∙ ap (λ (b : Bool). has_one low (s + i) || b) (has_one-low (high * 2 ^ (64 - s)) 64 i k)
    in
    elim (cases_lt (s + i) 64) [
      | inl first ↦
          let place : 64 * 0 + (s + i) ≡ s + i = omega arith in
          both
          ∙ ap (λ (b : Bool). has_one low (s + i) || b) (has_one-shl_below high (64 - s) i (omega arith))
          ∙ or-false (has_one low (s + i))
          ∙ sym (word_bit-at words 0 (s + i) first)
          ∙ ap (word_bit words) place
      | inr second ↦
          let place : 64 * 1 + (i - (64 - s)) ≡ s + i = omega arith in
          both
          ∙ ap (λ (b : Bool). b || has_one (high * 2 ^ (64 - s)) i) (has_one-above low 64 (s + i) h second)
          ∙ has_one-shl high (64 - s) i (omega arith)
          ∙ sym (word_bit-at words 1 (i - (64 - s)) (omega arith))
          ∙ ap (word_bit words) place
    ]

-- the low half of a word two times
pub twice_bits : (word i : ℕ) → i < 64
    → has_one (bit_or (word * 2 ^ 32 % 2 ^ 64) (bit_and word (2 ^ 32 - 1))) i ≡ has_one word (i % 32)
twice_bits word i k =
    let both : has_one (bit_or (word * 2 ^ 32 % 2 ^ 64) (bit_and word (2 ^ 32 - 1))) i
    ≡ (has_one (word * 2 ^ 32) i || has_one (word % 2 ^ 32) i) =
    has_one-or (word * 2 ^ 32 % 2 ^ 64) (bit_and word (2 ^ 32 - 1)) i
    ∙ ap (λ (b : Bool). b || has_one (bit_and word (2 ^ 32 - 1)) i) (has_one-low (word * 2 ^ 32) 64 i k)
    ∙ ap (λ (m : ℕ). has_one (word * 2 ^ 32) i || has_one m i) (and_mask word 32)
    in
    elim (cases_lt i 32) [
      | inl first ↦
          let place : i ≡ i % 32 = omega arith in
          both
          ∙ ap (λ (b : Bool). b || has_one (word % 2 ^ 32) i) (has_one-shl_below word 32 i first)
          ∙ has_one-low word 32 i first ∙ ap (has_one word) place
      | inr second ↦
          let place : i - 32 ≡ i % 32 = omega arith in
          both
          ∙ ap (λ (b : Bool). has_one (word * 2 ^ 32) i || b)
          (has_one-above (word % 2 ^ 32) 32 i (mod_below word (2 ^ 32) (pow_pos 32)) second)
          ∙ or-false (has_one (word * 2 ^ 32) i)
          ∙ has_one-shl word 32 i second ∙ ap (has_one word) place
    ]
