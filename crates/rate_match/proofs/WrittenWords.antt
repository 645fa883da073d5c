-- Packed words of which one is written, word after word or piece after piece.
use Rattle.std.proofs.Common.{◌≡◌, ◌≢◌, ℕ, ◌+◌, ◌-◌, ◌*◌, ◌/◌, ◌%◌, ◌^◌, ◌<◌, ◌≤◌, Bool, false, ◌||◌, List, length, get_or, set}
use Rattle.std.proofs.Common.{zero, suc, eqb, subst, ap, sym, ◌∙◌, inl, inr, arith, bit_and, bit_or}
use Rattle.std.proofs.Common.{get_or-set_same, get_or-set_other}
use Rattle.std.proofs.lemmas.Bool.{cases_eq}
use Rattle.std.proofs.lemmas.Nat.{and_mask, div-add-mod', mul-add-lt, one_shl, row_fits, shl_whole, shr-shr}
use Rattle.std.proofs.Math.Nat.{add-mul-mod_self_left, mod-lt, mul_comm}
use Rattle.bits_core.specs.Ones.{has_one}
use Rattle.bits_core.specs.Row.{word_bit}
use Rattle.bits_core.proofs.RowWords.{has_one-above, has_one-low, word_bit-at}
use Rattle.rate_match.specs.Pieces.{IsPut, IsReordered, IsWidth}
use Rattle.std.proofs.Math.Bool.{or-false}
use Rattle.rate_match.proofs.ShiftedBits.{has_one-or, has_one-shl, has_one-shl_below}

-- a bit of the word that is written
pub word_bit-set_same : (words : List ℕ) (q w i : ℕ) → i / 64 ≡ q → q < length words
    → word_bit (set words q w) i ≡ has_one w (i % 64)
word_bit-set_same words q w i e l =
    ap (λ (p : ℕ). has_one (get_or (set words q w) p 0) (i % 64)) e
    ∙ ap (λ (v : ℕ). has_one v (i % 64)) (get_or-set_same words q w 0 l)

-- a bit of another word
pub word_bit-set_other : (words : List ℕ) (q w i : ℕ) → i / 64 ≢ q → word_bit (set words q w) i ≡ word_bit words i
word_bit-set_other words q w i ne = ap (λ (v : ℕ). has_one v (i % 64)) (get_or-set_other words q (i / 64) w 0 ne)

-- the first `at` words hold the bits from `count` on, and the others are as before
pub record IsDropped (count at : ℕ) (old new : List ℕ) : Type 0 where
  pub dropped : (i : ℕ) → i < 64 * at → word_bit new i ≡ word_bit old (count + i)
  pub rest : (i : ℕ) → 64 * at ≤ i → word_bit new i ≡ word_bit old i

-- one more word
pub dropped_more : (old words : List ℕ) (count at w : ℕ) → at < length words → IsDropped count at old words
    → ((i : ℕ) → i < 64 → has_one w i ≡ word_bit words (count + 64 * at + i))
    → IsDropped count (at + 1) old (set words at w)
dropped_more old words count at w l h bits =
    record {
      dropped =
          λ i k.
          elim (cases_eq (i / 64) at) [
            | inl e ↦
                let place : count + 64 * at + i % 64 ≡ count + i = omega arith in
                word_bit-set_same words at w i e l ∙ bits (i % 64) (omega arith) ∙ ap (word_bit words) place
                ∙ h.rest (count + i) (omega arith)
            | inr ne ↦ word_bit-set_other words at w i ne ∙ h.dropped i (omega arith)
          ];
      rest = λ i k. word_bit-set_other words at w i (omega arith) ∙ h.rest i (omega arith);
    }

back : (n m i : ℕ) → m % n ≡ 0 → m ≤ i → (i - m) % n ≡ i % n
back n m i e l =
    let whole : m ≡ n * (m / n) = (let d = div-add-mod' m n in let c = mul_comm (m / n) n in omega arith) in
    let split : (i - m) + n * (m / n) ≡ i = omega arith in
    sym (add-mul-mod_self_left (i - m) n (m / n)) ∙ ap (λ (x : ℕ). x % n) split

-- one more word repeats an earlier one
pub repeated_more : (old words : List ℕ) (n period at : ℕ) → 64 * period % n ≡ 0 → 1 ≤ period → period ≤ at → at < length words
    → ((i : ℕ) → i < 64 * at → word_bit words i ≡ word_bit old (i % n))
    → (i : ℕ) → i < 64 * (at + 1) → word_bit (set words at (get_or words (at - period) 0)) i ≡ word_bit old (i % n)
repeated_more old words n period at whole some le l h i k =
    elim (cases_eq (i / 64) at) [
      | inl e ↦
          let place : 64 * (at - period) + i % 64 ≡ i - 64 * period = omega arith in
          word_bit-set_same words at (get_or words (at - period) 0) i e l
          ∙ sym (word_bit-at words (at - period) (i % 64) (omega arith))
          ∙ ap (word_bit words) place
          ∙ h (i - 64 * period) (omega arith)
          ∙ ap (word_bit old) (back n (64 * period) i whole (omega arith))
      | inr ne ↦ word_bit-set_other words at (get_or words (at - period) 0) i ne ∙ h i (omega arith)
    ]

count_some : (count width : ℕ) → count * width ≡ 64 → 0 < count
count_some zero width e = absurd (omega arith)
count_some (suc count) width e = omega arith

-- and some bits
pub width_some : (count width : ℕ) → count * width ≡ 64 → 0 < width
width_some count zero e = absurd (omega arith)
width_some count (suc width) e = omega arith

-- a piece of packed words ends in the word that it begins in
pub aligned : (index width : ℕ) → IsWidth width → index * width % 64 + width ≤ 64
aligned index width h =
    let count = h.count in
    let q = index / count in
    let r = index % count in
    let split : q * count + r ≡ index = div-add-mod' index count in
    let spread : (q * count + r) * width ≡ q * (count * width) + r * width = grind arith in
    let place : index * width ≡ q * 64 + r * width =
    ap (λ (x : ℕ). x * width) (sym split) ∙ spread ∙ ap (λ (x : ℕ). q * x + r * width) h.whole
    in
    let below : r < count = mod-lt index (count_some count width h.whole) in
    let fits : r * width + width ≤ 64 =
    subst (λ (x : ℕ). r * width + width ≤ x) h.whole (row_fits r width count width below (omega arith)) in
    let some : 0 < width = width_some count width h.whole in
    omega arith

-- the bits of a piece
pub piece_bits : (words : List ℕ) (index width : ℕ) → IsWidth width → (r : ℕ) → r < width
    → has_one (bit_and (get_or words (index * width / 64) 0 / 2 ^ (index * width % 64)) (1 * 2 ^ width % 2 ^ 64 - 1)) r
    ≡ word_bit words (index * width + r)
piece_bits words index width h r l =
    let at = index * width in
    let word = get_or words (at / 64) 0 in
    let within : at % 64 + width ≤ 64 = aligned index width h in
    let place : 64 * (at / 64) + (at % 64 + r) ≡ at + r = omega arith in
    ap (λ (m : ℕ). has_one (bit_and (word / 2 ^ (at % 64)) (m - 1)) r) (one_shl width 64 h.short)
    ∙ ap (λ (m : ℕ). has_one m r) (and_mask (word / 2 ^ (at % 64)) width)
    ∙ has_one-low (word / 2 ^ (at % 64)) width r l
    ∙ ap (λ (m : ℕ). eqb (m % 2) 1) (shr-shr word (at % 64) r)
    ∙ sym (word_bit-at words (at / 64) (at % 64 + r) (omega arith))
    ∙ ap (word_bit words) place

put_bits : (word at width piece : ℕ) → at % 64 + width ≤ 64 → piece < 2 ^ width → (i : ℕ)
    → has_one (bit_or word (piece * 2 ^ (at % 64) % 2 ^ 64)) i ≡ (has_one word i || has_one (piece * 2 ^ (at % 64)) i)
put_bits word at width piece h l i =
    has_one-or word (piece * 2 ^ (at % 64) % 2 ^ 64) i
    ∙ ap (λ (m : ℕ). has_one word i || has_one m i) (shl_whole piece width (at % 64) 64 l (omega arith))

-- a piece is put where zeros stand
pub piece_put : (words : List ℕ) (index width piece : ℕ) → IsWidth width → index * width / 64 < length words → piece < 2 ^ width
    → ((r : ℕ) → r < width → word_bit words (index * width + r) ≡ false)
    → IsPut (index * width) width piece words
    (set words (index * width / 64)
    (bit_or (get_or words (index * width / 64) 0) (piece * 2 ^ (index * width % 64) % 2 ^ 64)))
piece_put words index width piece h inside small free =
    let at = index * width in
    let q = at / 64 in
    let s = at % 64 in
    let word = get_or words q 0 in
    let new = bit_or word (piece * 2 ^ s % 2 ^ 64) in
    let within : s + width ≤ 64 = aligned index width h in
    let bits = put_bits word at width piece within small in
    let kept = λ (i : ℕ) (e : i / 64 ≡ q) (z : has_one (piece * 2 ^ s) (i % 64) ≡ false).
    word_bit-set_same words q new i e inside
    ∙ bits (i % 64)
    ∙ ap (λ (b : Bool). has_one word (i % 64) || b) z
    ∙ or-false (has_one word (i % 64))
    ∙ ap (λ (p : ℕ). has_one (get_or words p 0) (i % 64)) (sym e)
    in
    record {
      there =
          λ r l.
          let row : (at + r) / 64 ≡ q = omega arith in
          let column : (at + r) % 64 ≡ s + r = omega arith in
          let back : s + r - s ≡ r = omega arith in
          word_bit-set_same words q new (at + r) row inside
          ∙ ap (has_one new) column
          ∙ bits (s + r)
          ∙ ap (λ (b : Bool). b || has_one (piece * 2 ^ s) (s + r))
          (ap (has_one word) (sym column)
          ∙ ap (λ (p : ℕ). has_one (get_or words p 0) ((at + r) % 64)) (sym row)
          ∙ free r l)
          ∙ has_one-shl piece s (s + r) (omega arith)
          ∙ ap (has_one piece) back;
      below =
          λ i l.
          elim (cases_eq (i / 64) q) [
            | inl e ↦ kept i e (has_one-shl_below piece s (i % 64) (omega arith))
            | inr ne ↦ word_bit-set_other words q new i ne
          ];
      above =
          λ i l.
          elim (cases_eq (i / 64) q) [
            | inl e ↦
                kept i e (has_one-shl piece s (i % 64) (omega arith) ∙ has_one-above piece width (i % 64 - s) small (omega arith))
            | inr ne ↦ word_bit-set_other words q new i ne
          ];
    }

-- one more piece is put
pub reordered_more : (table : List ℕ) (width : ℕ) (from to new : List ℕ) (count piece : ℕ)
    → ((r : ℕ) → r < width → has_one piece r ≡ word_bit from (get_or table count 0 * width + r))
    → IsPut (count * width) width piece to new → IsReordered table width from to count
    → IsReordered table width from new (count + 1)
reordered_more table width from to new count piece bits put h =
    let more : (count + 1) * width ≡ count * width + width = grind arith in
    record {
      placed =
          λ turn r l k.
          elim (cases_eq turn count) [
            | inl e ↦
                ap (λ (x : ℕ). word_bit new (x * width + r)) e
                ∙ put.there r k ∙ bits r k
                ∙ ap (λ (x : ℕ). word_bit from (get_or table x 0 * width + r)) (sym e)
            | inr ne ↦
                let before = mul-add-lt turn width r count (omega arith) k in
                let turned = mul_comm width count in
                put.below (turn * width + r) (omega arith) ∙ h.placed turn r (omega arith) k
          ];
      empty = λ i l. put.above i (omega arith) ∙ h.empty i (omega arith);
    }
