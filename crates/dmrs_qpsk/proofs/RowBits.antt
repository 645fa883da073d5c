-- 18 bits of a row from the words that they stand in.
use Rattle.std.proofs.Common.{◌≡◌, ℕ, ◌+◌, ◌-◌, ◌*◌, ◌/◌, ◌%◌, ◌^◌, ◌<◌, ◌≤◌, Bool, List, eqb, bit_or, inl, inr, sym, ◌∙◌, ap}
use Rattle.std.proofs.Common.{arith, pow_pos}
use Rattle.std.proofs.lemmas.Bool.{cases_lt}
use Rattle.std.proofs.lemmas.Nat.{or_comm, shr-shr, div-add-mod'}
use Rattle.std.proofs.lemmas.Nat.Bits.{bit_at_or, bit_at-zero, bit_at_above, bit_at_cat_low, bit_at_cat_high}
use Rattle.std.specs.Int.{bit_at}
use Rattle.bits_core.specs.Bits.{bit_of}
use Rattle.bits_core.specs.Ones.{has_one}
use Rattle.bits_core.proofs.RowWords.{has_one-low}
use Rattle.gold_scrambler.specs.Stretches.{HasBits}
use Rattle.gold_scrambler.proofs.Stretches.{one_shr}

-- a bit of an or, where one of the two numbers has none
or_second : (a b i : ℕ) → bit_at a i ≡ 0 → has_one (bit_or a b) i ≡ has_one b i
or_second a b i e = ap (λ d. eqb d 1) (omega (arith, bit_at_or a b i, e))

or_first : (a b i : ℕ) → bit_at b i ≡ 0 → has_one (bit_or a b) i ≡ has_one a i
or_first a b i e = ap (λ n. has_one n i) (or_comm a b) ∙ or_second b a i e

-- the bits of a row from a place on, by the word that they begin in
from_word : (bits : List Bool) (at word : ℕ) → ((i : ℕ) → i < 64 → has_one word i ≡ bit_of bits (64 * (at / 64) + i))
    → (i : ℕ) → at % 64 + i < 64 → has_one (word / 2 ^ (at % 64)) i ≡ bit_of bits (at + i)
from_word bits at word read i l =
    let place : 64 * (at / 64) + (at % 64 + i) ≡ at + i = omega arith in
    one_shr word (at % 64) i ∙ read (at % 64 + i) l ∙ ap (bit_of bits) place

-- all of them are in that word
pub bits_within : (bits : List Bool) (at word : ℕ) → at % 64 ≤ 46
    → ((i : ℕ) → i < 64 → has_one word i ≡ bit_of bits (64 * (at / 64) + i))
    → HasBits (bit_of bits) at 18 (word / 2 ^ (at % 64) % 2 ^ 18)
bits_within bits at word fits read = record {
  bit = λ i l. has_one-low (word / 2 ^ (at % 64)) 18 i l ∙ from_word bits at word read i (omega arith);
}

-- a bit of a number that is shifted up in a word
in_shifted : (next room i : ℕ) → i < 64 → bit_at (next * 2 ^ room % 2 ^ 64) i ≡ bit_at (next * 2 ^ room + 0) i
in_shifted next room i l =
    let number = next * 2 ^ room in
    let whole : number / 2 ^ 64 * 2 ^ 64 + number % 2 ^ 64 ≡ number + 0 = omega (arith, div-add-mod' number (2 ^ 64)) in
    sym (bit_at_cat_low (number / 2 ^ 64) 64 (number % 2 ^ 64) i l) ∙ ap (λ n. bit_at n i) whole

below_shift : (next room i : ℕ) → i < room → i < 64 → bit_at (next * 2 ^ room % 2 ^ 64) i ≡ 0
below_shift next room i l m = in_shifted next room i m ∙ bit_at_cat_low next room 0 i l ∙ bit_at-zero i

above_shift : (next room i : ℕ) → room ≤ i → i < 64 → has_one (next * 2 ^ room % 2 ^ 64) i ≡ has_one next (i - room)
above_shift next room i l m =
    ap (λ d. eqb d 1) (in_shifted next room i m ∙ bit_at_cat_high next room 0 i (pow_pos room) l)

-- some of them are in the word that comes next
pub bits_across : (bits : List Bool) (at word next : ℕ) → 46 < at % 64 → word < 2 ^ 64
    → ((i : ℕ) → i < 64 → has_one word i ≡ bit_of bits (64 * (at / 64) + i))
    → ((i : ℕ) → i < 64 → has_one next i ≡ bit_of bits (64 * (at / 64 + 1) + i))
    → HasBits (bit_of bits) at 18 (bit_or (word / 2 ^ (at % 64)) (next * 2 ^ (64 - at % 64) % 2 ^ 64) % 2 ^ 18)
bits_across bits at word next wide small read read' =
    let low = at % 64 in
    let room = 64 - low in
    let first = word / 2 ^ low in
    let second = next * 2 ^ room % 2 ^ 64 in
    record {
      bit = λ i l.
          has_one-low (bit_or first second) 18 i l
          ∙ elim (cases_lt i room) as (λ _. has_one (bit_or first second) i ≡ bit_of bits (at + i)) [
            | inl m ↦
                or_first first second i (below_shift next room i m (omega arith))
                ∙ from_word bits at word read i (omega arith)
            | inr m ↦
                let none : bit_at first i ≡ 0 =
                ap (λ n. n % 2) (shr-shr word low i) ∙ bit_at_above word 64 (low + i) small (omega arith) in
                let place : 64 * (at / 64 + 1) + (i - room) ≡ at + i = omega arith in
                or_second first second i none
                ∙ above_shift next room i m (omega arith)
                ∙ read' (i - room) (omega arith)
                ∙ ap (bit_of bits) place
          ];
    }
