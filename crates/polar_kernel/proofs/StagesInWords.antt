-- The stages inside a word.
use Rattle.std.proofs.Common.{ℕ, suc, ◌≡◌, ◌+◌, ◌/◌, ◌-◌, ◌%◌, ◌^◌, ◌<◌, Bool, true, false, ◌&&◌, List, length, set, refl, ap}
use Rattle.std.proofs.Common.{sym, ◌∙◌, inl, inr, arith, bit_and, slice_index, length-set, get_or-set_same, get_or-set_other}
use Rattle.std.specs.Prelude.{◌==◌, if◌then◌else◌}
use Rattle.std.specs.Int.Bits.{bit_xor}
use Rattle.std.proofs.lemmas.Bool.{agree_below, agree_below_at, cases_eq}
use Rattle.bits_core.specs.Bits.{plus}
use Rattle.bits_core.specs.Ones.{has_one}
use Rattle.bits_core.specs.Row.{word_bit}
use Rattle.bits_core.proofs.Sums.{has_one-xor}
use Rattle.polar_kernel.specs.PackedStages.{IsPackedWord, IsStageMask}
use Rattle.polar_kernel.specs.Stages.{AfterStages, staged}
use Rattle.polar_kernel.proofs.Stages.{after_all, after_more, partners_at}
use Rattle.polar_kernel.proofs.WordBits.{has_one-and, has_one-shr, word_bit-first}
use Rattle.polar_kernel.proofs.Words.{word_at_same}

-- a mask by its table of 64 places
pub mask_of : (span mask : ℕ) → agree_below (has_one mask) (λ k. bit_and k span == 0) 64 ≡ true → IsStageMask span mask
mask_of span mask table k l = agree_below_at (has_one mask) (λ k. bit_and k span == 0) 64 k table l

masked_sum : (c a b : Bool) → plus a (b && c) ≡ (if c then plus a b else a)
masked_sum true true true = refl
masked_sum true true false = refl
masked_sum true false true = refl
masked_sum true false false = refl
masked_sum false true true = refl
masked_sum false true false = refl
masked_sum false false true = refl
masked_sum false false false = refl

-- a bit after a stage by mask and shift
pub stage_bit : (word span mask k : ℕ) → IsStageMask span mask → k < 64 →
    has_one (bit_xor word (bit_and (word / 2 ^ span) mask)) k ≡ staged span (has_one word) k
stage_bit word span mask k places l =
    has_one-xor word (bit_and (word / 2 ^ span) mask) k
    ∙ ap (plus (has_one word k))
    (has_one-and (word / 2 ^ span) mask k
    ∙ ap (λ (b : Bool). b && has_one mask k) (has_one-shr word span k)
    ∙ ap (λ (b : Bool). has_one word (k + span) && b) (places k l))
    ∙ masked_sum (bit_and k span == 0) (has_one word k) (has_one word (k + span))

-- one stage inside a word more
pub one_more : (t : ℕ) (u w v : ℕ → Bool) → t < 6 → AfterStages 64 t u w →
    ((k : ℕ) → k < 64 → v k ≡ staged (2 ^ t) w k) → AfterStages 64 (suc t) u v
one_more t u w v l = after_more 64 t u w v (partners_at 6 t l)

masked_choice : (c a b : Bool) → plus a (plus a b && c) ≡ (if c then b else a)
masked_choice true true true = refl
masked_choice true true false = refl
masked_choice true false true = refl
masked_choice true false false = refl
masked_choice false true true = refl
masked_choice false true false = refl
masked_choice false false true = refl
masked_choice false false false = refl

-- a bit of the word that has the first half of `new` and the second of `old`
half_bit : (old new mask k : ℕ) → IsStageMask 32 mask → k < 64 →
    has_one (bit_xor old (bit_and (bit_xor old new) mask)) k
    ≡ (if bit_and k 32 == 0 then has_one new k else has_one old k)
half_bit old new mask k places l =
    has_one-xor old (bit_and (bit_xor old new) mask) k
    ∙ ap (plus (has_one old k))
    (has_one-and (bit_xor old new) mask k
    ∙ ap (λ (b : Bool). b && has_one mask k) (has_one-xor old new k)
    ∙ ap (λ (b : Bool). plus (has_one old k) (has_one new k) && b) (places k l))
    ∙ masked_choice (bit_and k 32 == 0) (has_one old k) (has_one new k)

low_table : agree_below (λ k. bit_and k 32 == 0) (λ _. true) 32 ≡ true
low_table = refl

high_table : agree_below (λ k. bit_and (32 + k) 32 == 0) (λ _. false) 32 ≡ true
high_table = refl

low_place : (k : ℕ) → k < 32 → (bit_and k 32 == 0) ≡ true
low_place k l = agree_below_at (λ k. bit_and k 32 == 0) (λ _. true) 32 k low_table l

high_place : (d : ℕ) → d < 32 → (bit_and (32 + d) 32 == 0) ≡ false
high_place d l = agree_below_at (λ k. bit_and (32 + k) 32 == 0) (λ _. false) 32 d high_table l

-- the stages inside the first half of the first word leave the word of 32 bits, and every other bit
pub half_word : (words : List ℕ) (new mask : ℕ) → 0 < length words → IsStageMask 32 mask →
    AfterStages 64 5 (has_one (slice_index words 0)) (has_one new) →
    IsPackedWord 32 words (set words 0 (bit_xor (slice_index words 0) (bit_and (bit_xor (slice_index words 0) new) mask)))
half_word words new mask some places after =
    let old = slice_index words 0 in
    let both = bit_xor old (bit_and (bit_xor old new) mask) in
    let there : (k : ℕ) → k < 64 → word_bit (set words 0 both) k ≡ (if bit_and k 32 == 0 then has_one new k else has_one old k) =
    λ k l.
    word_bit-first (set words 0 both) k l
    ∙ ap (λ (w : ℕ). has_one w k) (get_or-set_same words 0 both 0 some)
    ∙ half_bit old new mask k places l in
    record {
      length_is = length-set words 0 both;
      first = λ j l.
          there j (omega arith)
          ∙ ap (λ (b : Bool). if b then has_one new j else has_one old j) (low_place j l)
          ∙ after_all 5 (has_one old) (has_one new) (λ q r m b. after q r m (omega arith)) j l
          ∙ word_at_same 32 (has_one old) (word_bit words) j (λ i m. sym (word_bit-first words i (omega arith)));
      others = λ j l.
          elim (cases_eq (j / 64) 0) as (λ _. word_bit (set words 0 both) j ≡ word_bit words j) [
            | inl e ↦
                let within : j < 64 = omega arith in
                let d : 32 + (j - 32) ≡ j = omega arith in
                there j within
                ∙ ap (λ (b : Bool). if b then has_one new j else has_one old j)
                (ap (λ (x : ℕ). bit_and x 32 == 0) (sym d) ∙ high_place (j - 32) (omega arith))
                ∙ sym (word_bit-first words j within)
            | inr ne ↦ ap (λ (w : ℕ). has_one w (j % 64)) (get_or-set_other words 0 (j / 64) both 0 ne)
          ];
    }
