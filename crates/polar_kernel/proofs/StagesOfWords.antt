-- The stages between words.
use Rattle.std.proofs.Common.{ℕ, ◌≡◌, ◌+◌, ◌-◌, ◌*◌, ◌/◌, ◌%◌, ◌^◌, ◌<◌, ◌≤◌, zero, suc, Bool, true, false, List, length}
use Rattle.std.proofs.Common.{eqb, refl, ap, subst, sym, ◌∙◌, arith, lit<, bit_and, slice_index}
use Rattle.std.specs.Prelude.{◌==◌, if◌then◌else◌}
use Rattle.std.specs.Int.Bits.{and_zero_r, bit_xor}
use Rattle.std.proofs.Math.Nat.{one-le-pow, pow-suc}
use Rattle.std.proofs.lemmas.Bool.{ne_eqb}
use Rattle.std.proofs.lemmas.List.FromFn.{fill_by_all}
use Rattle.std.proofs.lemmas.Nat.{and_block, one_shl, pow-add}
use Rattle.bits_core.specs.Bits.{bit_of, plus}
use Rattle.bits_core.specs.Ones.{has_one}
use Rattle.bits_core.specs.Row.{row_bits, word_bit}
use Rattle.bits_core.proofs.Rows.{get-row, length-row}
use Rattle.polar_kernel.specs.MatrixWord.{matrix_word, word_at}
use Rattle.polar_kernel.specs.PackedStages.{IsPackedWord, OfEachWord, StagedWords}
use Rattle.polar_kernel.specs.Stages.{AfterStages, HasPartners, staged}
use Rattle.polar_kernel.proofs.Stages.{after_all, after_more}
use Rattle.polar_kernel.proofs.StagesOfLists.{partners_by, within_more}
use Rattle.bits_core.proofs.Sums.{has_one-xor}
use Rattle.polar_kernel.proofs.WordBits.{word_bit-at}
use Rattle.polar_kernel.proofs.Words.{word_at_same}

-- w is what the stages below `span` words leave of u, of which the first `count` words take part
pub record IsPartlyPacked (count span : ℕ) (u w : List ℕ) : Type 0 where
  pub stage : ℕ
  pub bit_stage : ℕ
  pub span_is : span ≡ 2 ^ stage
  pub bit_span_is : 64 * span ≡ 2 ^ bit_stage
  pub within : span ≤ count
  pub length_is : length w ≡ length u
  pub each : AfterStages (64 * count) bit_stage (word_bit u) (word_bit w)
  pub others : (j : ℕ) → 64 * count ≤ j → word_bit w j ≡ word_bit u j

-- 64 times a power of two
sixty_four : (t : ℕ) → 2 ^ (6 + t) ≡ 64 * 2 ^ t
sixty_four t = pow-add 2 6 t

-- how many words 2 ^ n bits fill
pub word_count : (n : ℕ) → n ≤ 9 → 1 * 2 ^ (n - 6) % 2 ^ 64 ≡ 2 ^ (n - 6)
word_count n l = one_shl (n - 6) 64 (omega arith)

-- those words have 2 ^ n bits
pub bits_of_words : (n : ℕ) → 6 ≤ n → n ≤ 9 → 64 * (1 * 2 ^ (n - 6) % 2 ^ 64) ≡ 2 ^ n
bits_of_words n l m =
    let whole : 6 + (n - 6) ≡ n = omega arith in
    ap (λ (x : ℕ). 64 * x) (word_count n m) ∙ sym (sixty_four (n - 6)) ∙ ap (λ (x : ℕ). 2 ^ x) whole

-- where 2 ^ n bits have room, so have those words
pub words_fit : (n size : ℕ) → 6 ≤ n → n ≤ 9 → 2 ^ n ≤ 64 * size → 1 * 2 ^ (n - 6) % 2 ^ 64 ≤ size
words_fit n size l m room = let e = bits_of_words n l m in omega arith

-- at least one word is filled
pub some_words : (n : ℕ) → n ≤ 9 → 1 ≤ 1 * 2 ^ (n - 6) % 2 ^ 64
some_words n m = let e = word_count n m in let le : 1 ≤ 2 ^ (n - 6) = one-le-pow (n - 6) 2 (lit< tt) in omega arith

-- each word alone is the first six stages
pub each_done : (count : ℕ) (u w : List ℕ) → 1 ≤ count → OfEachWord count u w → IsPartlyPacked count 1 u w
each_done count u w some h = record {
  stage = 0;
  bit_stage = 6;
  span_is = refl;
  bit_span_is = refl;
  within = some;
  length_is = h.length_is;
  each = λ q r l b.
      word_bit-at w q r l ∙ h.first q r (omega arith) l
      ∙ word_at_same 64 (has_one (slice_index u q)) (λ i. word_bit u (q * 64 + i)) r (λ i m. sym (word_bit-at u q i m));
  others = λ j l. ap (λ (x : ℕ). has_one x (j % 64)) (h.others (j / 64) (omega arith));
}

zero_times : (x : ℕ) → eqb x 0 ≡ eqb (x * 64) 0
zero_times zero = refl
zero_times (suc x) = ne_eqb (suc x) 0 (λ h. omega arith) ∙ sym (ne_eqb (suc x * 64) 0 (λ h. omega arith))

-- the digit of 64 * span at a place is that of span at the number of its word
word_digit : (j span : ℕ) → (bit_and (j / 64) span == 0) ≡ (bit_and j (64 * span) == 0)
word_digit j span =
    let place : j ≡ j / 64 * 64 + j % 64 = omega arith in
    let digit : 64 * span ≡ span * 64 + 0 = omega arith in
    zero_times (bit_and (j / 64) span)
    ∙ ap (λ (x : ℕ). eqb x 0)
    (sym
    (ap (λ (x : ℕ). bit_and x (64 * span)) place ∙ ap (bit_and (j / 64 * 64 + j % 64)) digit
    ∙ and_block 6 (j / 64) span (j % 64) 0 (omega arith) (omega arith)
    ∙ ap (λ (x : ℕ). bit_and (j / 64) span * 64 + x) (and_zero_r (j % 64)) ∙ omega arith))

staged_bit : (c : Bool) (a b k : ℕ) →
    has_one (if c then bit_xor a b else a) k ≡ (if c then plus (has_one a k) (has_one b k) else has_one a k)
staged_bit true a b k = has_one-xor a b k
staged_bit false a b k = refl

-- a stage between words is a stage of their bits
pub between_bit : (count span : ℕ) (old new : List ℕ) → StagedWords count span old new →
    (j : ℕ) → j < 64 * count → word_bit new j ≡ staged (64 * span) (word_bit old) j
between_bit count span old new h j l =
    let partner_word : j / 64 + span ≡ (j + 64 * span) / 64 = omega arith in
    let partner_place : j % 64 ≡ (j + 64 * span) % 64 = omega arith in
    let q = j / 64 in
    let k = j % 64 in
    let a = slice_index old q in
    ap (λ (w : ℕ). has_one w k) (h.first q (omega arith))
    ∙ staged_bit (bit_and q span == 0) a (slice_index old (q + span)) k
    ∙ ap (λ (c : Bool). if c then plus (has_one a k) (has_one (slice_index old (q + span)) k) else has_one a k)
    (word_digit j span)
    ∙ ap (λ (b : Bool). if bit_and j (64 * span) == 0 then plus (has_one a k) b else has_one a k)
    (ap (λ (x : ℕ). has_one (slice_index old x) k) partner_word
    ∙ ap (has_one (slice_index old ((j + 64 * span) / 64))) partner_place)

-- the next stage finds each partner
pub partners_of_words : (count span m : ℕ) (u w : List ℕ) → count ≡ 2 ^ m → IsPartlyPacked count span u w → span < count →
    HasPartners count span
partners_of_words count span m u w e p l = partners_by count span m p.stage e p.span_is l

-- one stage between words more
pub one_more_between : (count span m : ℕ) (u w v : List ℕ) → count ≡ 2 ^ m → IsPartlyPacked count span u w → span < count →
    StagedWords count span w v → IsPartlyPacked count (span * 2) u v
one_more_between count span m u w v e p l h =
    let t = p.bit_stage in
    let length_is : 64 * count ≡ 2 ^ (6 + m) = ap (λ (x : ℕ). 64 * x) e ∙ sym (sixty_four m) in
    let partners : HasPartners (64 * count) (2 ^ t) =
    subst (λ (x : ℕ). HasPartners (64 * count) x) p.bit_span_is
    (partners_by (64 * count) (64 * span) (6 + m) t length_is p.bit_span_is (omega arith)) in
    let twice : 64 * (span * 2) ≡ 64 * span * 2 = omega arith in
    record {
      stage = suc p.stage;
      bit_stage = suc t;
      span_is = ap (λ (x : ℕ). x * 2) p.span_is ∙ sym (pow-suc 2 p.stage);
      bit_span_is = twice ∙ ap (λ (x : ℕ). x * 2) p.bit_span_is ∙ sym (pow-suc 2 t);
      within = within_more count span m p.stage e p.span_is l;
      length_is = h.length_is ∙ p.length_is;
      each = after_more (64 * count) t (word_bit u) (word_bit w) (word_bit v) partners p.each
          (λ j b. between_bit count span w v h j b ∙ ap (λ (x : ℕ). staged x (word_bit w) j) p.bit_span_is);
      others = λ j b. ap (λ (x : ℕ). has_one x (j % 64)) (h.others (j / 64) (omega arith)) ∙ p.others j b;
    }

-- after the last stage
pub all_words_done : (count span : ℕ) (u w : List ℕ) → IsPartlyPacked count span u w → count ≤ span →
    IsPackedWord (64 * count) u w
all_words_done count span u w p l =
    let t = p.bit_stage in
    let whole : 64 * count ≡ 2 ^ t = (let a = p.within in let b = p.bit_span_is in omega arith) in
    record {
      length_is = p.length_is;
      first = λ j b.
          after_all t (word_bit u) (word_bit w)
          (subst (λ (n : ℕ). AfterStages n t (word_bit u) (word_bit w)) whole p.each) j
          (subst (λ (n : ℕ). j < n) whole b)
          ∙ ap (λ (n : ℕ). word_at n (word_bit u) j) (sym whole);
      others = p.others;
    }

-- a packed word as a row of bits
pub packed_row : (n : ℕ) (old new : List ℕ) → IsPackedWord n old new → row_bits new n ≡ matrix_word (row_bits old n)
unfolding matrix_word
packed_row n old new h =
    let u = row_bits old n in
    fill_by_all (word_at (length u) (bit_of u)) (row_bits new n) (length u) false (length-row new n ∙ sym (length-row old n))
    (λ j b.
    let within : j < n = subst (λ (x : ℕ). j < x) (length-row old n) b in
    get-row new n j within ∙ h.first j within
    ∙ word_at_same n (word_bit old) (bit_of u) j (λ i m. sym (get-row old n i m))
    ∙ ap (λ (x : ℕ). word_at x (bit_of u) j) (sym (length-row old n)))
