-- One bit of packed words is set or cleared.
use Rattle.std.proofs.Common.{◌≡◌, ℕ, ◌-◌, ◌*◌, ◌/◌, ◌%◌, ◌^◌, ◌<◌, ◌≢◌, Bool, true, false, eqb, List, length, get_or, set, sym}
use Rattle.std.proofs.Common.{ap, ◌∙◌, inl, inr, arith, bit_and, bit_or, w64, get_or-set_same, get_or-set_other}
use Rattle.std.specs.Int.{bit_at}
use Rattle.std.proofs.lemmas.Bool.{cases_eq}
use Rattle.std.proofs.lemmas.Nat.Bits.{bit_at_set_same, bit_at_set_other, bit_at_clear_same, bit_at_clear_other}
use Rattle.bits_core.specs.Row.{word_bit}
use Rattle.bits_core.specs.RowWriting.{IsWritten}

-- a word is replaced by one that differs in one bit at most
written : (words : List ℕ) (at word : ℕ) (bit : Bool) → at < 64 * length words → eqb (bit_at word (at % 64)) 1 ≡ bit
    → ((k : ℕ) → k < 64 → k ≢ at % 64 → bit_at word k ≡ bit_at (get_or words (at / 64) 0) k)
    → IsWritten at bit words (set words (at / 64) word)
written words at word bit h there others =
    let within : at / 64 < length words = omega arith in
    record {
      there = ap (λ (w : ℕ). eqb (bit_at w (at % 64)) 1) (get_or-set_same words (at / 64) word 0 within) ∙ there;
      others = λ i ne.
          elim (cases_eq (i / 64) (at / 64)) as (λ _. word_bit (set words (at / 64) word) i ≡ word_bit words i) [
            | inl e ↦
                let apart : i % 64 ≢ at % 64 = omega arith in
                ap (λ (q : ℕ). eqb (bit_at (get_or (set words (at / 64) word) q 0) (i % 64)) 1) e
                ∙ ap (λ (w : ℕ). eqb (bit_at w (i % 64)) 1) (get_or-set_same words (at / 64) word 0 within)
                ∙ ap (λ (b : ℕ). eqb b 1) (others (i % 64) (omega arith) apart)
                ∙ ap (λ (q : ℕ). eqb (bit_at (get_or words q 0) (i % 64)) 1) (sym e)
            | inr other ↦ ap (λ (w : ℕ). eqb (bit_at w (i % 64)) 1) (get_or-set_other words (at / 64) (i / 64) word 0 other)
          ];
    }

-- an or with its place sets a bit
pub bit_set : (words : List ℕ) (at : ℕ) (bit : Bool) → at < 64 * length words → bit ≡ true
    → IsWritten at bit words (set words (at / 64) (bit_or (get_or words (at / 64) 0) (1 * 2 ^ (at % 64) % 2 ^ 64)))
bit_set words at bit h e =
    let low : at % 64 < 64 = omega arith in
    written words at (bit_or (get_or words (at / 64) 0) (1 * 2 ^ (at % 64) % 2 ^ 64)) bit h
    (ap (λ (b : ℕ). eqb b 1) (bit_at_set_same w64 (get_or words (at / 64) 0) (at % 64) low) ∙ sym e)
    (λ k l ne. bit_at_set_other w64 (get_or words (at / 64) 0) (at % 64) low k ne)

-- an and with all other places clears a bit
pub bit_cleared : (words : List ℕ) (at : ℕ) (bit : Bool) → at < 64 * length words → bit ≡ false
    → IsWritten at bit words (set words (at / 64) (bit_and (get_or words (at / 64) 0) (2 ^ 64 - 1 - 1 * 2 ^ (at % 64) % 2 ^ 64)))
bit_cleared words at bit h e =
    let low : at % 64 < 64 = omega arith in
    written words at (bit_and (get_or words (at / 64) 0) (2 ^ 64 - 1 - 1 * 2 ^ (at % 64) % 2 ^ 64)) bit h
    (ap (λ (b : ℕ). eqb b 1) (bit_at_clear_same w64 (get_or words (at / 64) 0) (at % 64) low) ∙ sym e)
    (λ k l ne. bit_at_clear_other w64 (get_or words (at / 64) 0) (at % 64) low k l ne)
