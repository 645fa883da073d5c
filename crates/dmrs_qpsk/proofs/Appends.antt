-- The bits of a REG behind those of a row of words.
use Rattle.std.proofs.Common.{◌≡◌, ℕ, ◌+◌, ◌-◌, ◌*◌, ◌/◌, ◌%◌, ◌^◌, ◌<◌, ◌≤◌, ◌≢◌, eqb, List, length, get_or, set, bit_and}
use Rattle.std.proofs.Common.{bit_or, inl, inr, sym, ap, ◌∙◌, arith}
use Rattle.std.proofs.Common.{get_or-set_same, get_or-set_other, length-set, pow_pos, zero-add}
use Rattle.std.proofs.lemmas.Bool.{cases_eq, cases_lt}
use Rattle.std.proofs.lemmas.Nat.Bits.{bit_at_cat_low, bit_at_cat_high}
use Rattle.std.proofs.Math.Nat.{mod-lt}
use Rattle.bits_core.specs.Ones.{has_one}
use Rattle.bits_core.specs.Row.{word_bit}
use Rattle.bits_core.proofs.RowWords.{has_one-low}
use Rattle.gold_scrambler.specs.Stretches.{HasBits}
use Rattle.gold_scrambler.proofs.Stretches.{one_shr, kept, joined}
use Rattle.dmrs_qpsk.specs.WholeRegs.{IsAppended}

-- the low bits of a word, and a number above them
abbrev above : ℕ → ℕ → ℕ → ℕ
above word low number = bit_or (bit_and word (1 * 2 ^ low % 2 ^ 64 - 1)) (number * 2 ^ low % 2 ^ 64)

-- that word has these bits
pub record IsAbove (word low width number new : ℕ) : Type 0 where
  pub under : (i : ℕ) → i < low → has_one new i ≡ has_one word i
  pub over : (i : ℕ) → i < width → has_one new (low + i) ≡ has_one number i

sum_above : (rest low width number : ℕ) → low + width ≤ 64 → rest < 2 ^ low → number < 2 ^ width
    → HasBits (has_one (number * 2 ^ low + rest)) 0 (low + width) (bit_or rest (number * 2 ^ low % 2 ^ 64))
sum_above rest low width number fits small small' =
    let x = has_one (number * 2 ^ low + rest) in
    joined x 0 low width width rest number (omega arith) (omega arith) small small'
    (record { bit = λ i l. sym (ap x (zero-add i) ∙ ap (λ d. eqb d 1) (bit_at_cat_low number low rest i l)) })
    (record {
      bit = λ i l.
          let here : 0 + low + i ≡ low + i = omega arith in
          let place : low + i - low ≡ i = omega arith in
          sym
          (ap x here
          ∙ ap (λ d. eqb d 1) (bit_at_cat_high number low rest (low + i) small (omega arith))
          ∙ ap (has_one number) place);
    })

rest_above : (rest low width number : ℕ) → low + width ≤ 64 → rest < 2 ^ low → number < 2 ^ width
    → IsAbove rest low width number (bit_or rest (number * 2 ^ low % 2 ^ 64))
rest_above rest low width number fits small small' =
    let x = has_one (number * 2 ^ low + rest) in
    let all = sum_above rest low width number fits small small' in
    record {
      under = λ i l. all.bit i (omega arith) ∙ ap x (zero-add i) ∙ ap (λ d. eqb d 1) (bit_at_cat_low number low rest i l);
      over = λ i l.
          let place : low + i - low ≡ i = omega arith in
          all.bit (low + i) (omega arith)
          ∙ ap x (zero-add (low + i))
          ∙ ap (λ d. eqb d 1) (bit_at_cat_high number low rest (low + i) small (omega arith))
          ∙ ap (has_one number) place;
    }

-- so it is with the low bits of a word
pub word_above : (word low width number : ℕ) → low < 64 → low + width ≤ 64 → number < 2 ^ width
    → IsAbove word low width number (above word low number)
word_above word low width number l fits small =
    let h = rest_above (word % 2 ^ low) low width number fits (mod-lt word (pow_pos low)) small in
    let same : above word low number ≡ bit_or (word % 2 ^ low) (number * 2 ^ low % 2 ^ 64) =
    ap (λ rest. bit_or rest (number * 2 ^ low % 2 ^ 64)) (kept word low l)
    in
    record {
      under = λ i m. ap (λ w. has_one w i) same ∙ h.under i m ∙ has_one-low word low i m;
      over = λ i m. ap (λ w. has_one w (low + i)) same ∙ h.over i m;
    }

-- a word is replaced by one with other bits from a place on: those before stay
bits_before : (words : List ℕ) (at new : ℕ) → at < 64 * length words
    → ((i : ℕ) → i < at % 64 → has_one new i ≡ has_one (get_or words (at / 64) 0) i)
    → (i : ℕ) → i < at → word_bit (set words (at / 64) new) i ≡ word_bit words i
bits_before words at new within under i l =
    elim (cases_eq (i / 64) (at / 64)) as (λ _. word_bit (set words (at / 64) new) i ≡ word_bit words i) [
      | inl e ↦
          ap (λ q. has_one (get_or (set words (at / 64) new) q 0) (i % 64)) e
          ∙ ap (λ w. has_one w (i % 64)) (get_or-set_same words (at / 64) new 0 (omega arith))
          ∙ under (i % 64) (omega arith)
          ∙ ap (λ q. has_one (get_or words q 0) (i % 64)) (sym e)
      | inr ne ↦ ap (λ w. has_one w (i % 64)) (get_or-set_other words (at / 64) (i / 64) new 0 ne)
    ]

-- a bit of the new word
bit_there : (words : List ℕ) (q new i j : ℕ) → q < length words → i ≡ 64 * q + j → j < 64
    → word_bit (set words q new) i ≡ has_one new j
bit_there words q new i j within e l =
    let word : i / 64 ≡ q = omega arith in
    let place : i % 64 ≡ j = omega arith in
    ap (λ p. has_one (get_or (set words q new) p 0) (i % 64)) word
    ∙ ap (λ w. has_one w (i % 64)) (get_or-set_same words q new 0 within)
    ∙ ap (has_one new) place

-- 18 bits within a word
pub appended_within : (words : List ℕ) (at number : ℕ) → at + 18 ≤ 64 * length words → at % 64 + 18 ≤ 64 → number < 2 ^ 18
    → IsAppended at number words (set words (at / 64) (above (get_or words (at / 64) 0) (at % 64) number))
appended_within words at number room fits small =
    let q = at / 64 in
    let new = above (get_or words q 0) (at % 64) number in
    let h = word_above (get_or words q 0) (at % 64) 18 number (omega arith) fits small in
    record {
      before = bits_before words at new (omega arith) h.under;
      behind = λ i l.
          bit_there words q new (at + i) (at % 64 + i) (omega arith) (omega arith) (omega arith) ∙ h.over i l;
    }

-- 18 bits in two words
pub appended_across : (words : List ℕ) (at number : ℕ) → at + 18 ≤ 64 * length words → 64 - at % 64 < 18
    → IsAppended at number words
    (set (set words (at / 64) (above (get_or words (at / 64) 0) (at % 64) (bit_and number (1 * 2 ^ (64 - at % 64) % 2 ^ 64 - 1))))
    (at / 64 + 1) (number / 2 ^ (64 - at % 64)))
appended_across words at number room narrow =
    let q = at / 64 in
    let width = 64 - at % 64 in
    let cut = bit_and number (1 * 2 ^ width % 2 ^ 64 - 1) in
    let rest = number / 2 ^ width in
    let low : cut ≡ number % 2 ^ width = kept number width (omega arith) in
    let new = above (get_or words q 0) (at % 64) cut in
    let one = set words q new in
    let size : length one ≡ length words = length-set words q new in
    let small : cut < 2 ^ width = rw low (mod-lt number (pow_pos width)) in
    let h = word_above (get_or words q 0) (at % 64) width cut (omega arith) (omega arith) small in
    let elsewhere : (p : ℕ) → p / 64 ≢ q + 1 → word_bit (set one (q + 1) rest) p ≡ word_bit one p =
    λ p ne. ap (λ w. has_one w (p % 64)) (get_or-set_other one (q + 1) (p / 64) rest 0 ne) in
    record {
      before = λ i l.
          let apart : i / 64 ≢ q + 1 = omega arith in
          elsewhere i apart ∙ bits_before words at new (omega arith) h.under i l;
      behind = λ i l.
          elim (cases_lt i width) as (λ _. word_bit (set one (q + 1) rest) (at + i) ≡ has_one number i) [
            | inl m ↦
                let apart : (at + i) / 64 ≢ q + 1 = omega arith in
                elsewhere (at + i) apart
                ∙ bit_there words q new (at + i) (at % 64 + i) (omega arith) (omega arith) (omega arith)
                ∙ h.over i m
                ∙ ap (λ n. has_one n i) low
                ∙ has_one-low number width i m
            | inr m ↦
                let place : width + (i - width) ≡ i = omega arith in
                bit_there one (q + 1) rest (at + i) (i - width) (omega (arith, size)) (omega arith) (omega arith)
                ∙ one_shr number width (i - width)
                ∙ ap (has_one number) place
          ];
    }
