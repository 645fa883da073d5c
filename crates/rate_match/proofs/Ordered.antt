-- The word and its coded bits in packed words, by the order of sending.
use Rattle.std.proofs.Common.{◌≡◌, ◌≢◌, ℕ, ◌+◌, ◌-◌, ◌*◌, ◌/◌, ◌%◌, ◌^◌, ◌<◌, ◌≤◌, Bool, false, List, length, min}
use Rattle.std.proofs.Common.{refl, ap, sym, ◌∙◌, inl, inr, arith, lit<, ◌↔◌}
use Rattle.std.specs.Prelude.{IsTrue}
use Rattle.std.proofs.lemmas.Bool.{cases_lt}
use Rattle.std.proofs.lemmas.List.{ext_get_or}
use Rattle.std.proofs.lemmas.Nat.{div-add-mod'}
use Rattle.std.proofs.Math.ListN.{get_or-eq_default}
use Rattle.std.proofs.Math.Nat.{mod-eq_of_lt, mod-lt, pow-le-pow_right}
use Rattle.bits_core.specs.Bits.{bit_of}
use Rattle.bits_core.specs.CodeLengths.{is_code_length}
use Rattle.bits_core.specs.Row.{row_bits, word_bit}
use Rattle.bits_core.proofs.CodeLengths.{by_lengths}
use Rattle.bits_core.proofs.RowWords.{bit_of-row, bit_of-row_past}
use Rattle.bits_core.proofs.Rows.{length-row}
use Rattle.rate_match.specs.Pieces.{IsReordered, IsWidth}
use Rattle.rate_match.specs.RateMatching.{selected, sent_place}
use Rattle.rate_match.specs.Received.{IsUnselected}
use Rattle.rate_match.specs.Repeats.{RepeatsBelow}
use Rattle.rate_match.specs.SubblockOrder.{position_at, subblock_order}
use Rattle.rate_match.proofs.Places.{place_below, place_of, place_of-position_at, position_at-place_of, position_reordered}
use Rattle.rate_match.proofs.Places.{reordered, subblock_below, turn_order}
use Rattle.rate_match.proofs.Selected.{selected_by_each}
use Rattle.rate_match.proofs.Sent.{sent_below}
use Rattle.rate_match.proofs.Subblocks.{in_subblocks, position_below}
use Rattle.rate_match.proofs.Unselected.{IsPut, positive, unselected}

-- the exponent of a code length
pub exponent_small : (n : ℕ) → IsTrue (is_code_length (2 ^ n)) → n < 10
exponent_small n h =
    elim (cases_lt n 10) [
      | inl l ↦ l
      | inr g ↦
          let long : 2 ^ 10 ≤ 2 ^ n = pow-le-pow_right (lit< tt) g in
          let short = (in_subblocks (2 ^ n) h).limit in
          absurd (omega arith)
    ]

-- a sub-block of a word lies in one of its packed words
pub width_of : (n : ℕ) → IsTrue (is_code_length n) → IsWidth (n / 32)
width_of =
    by_lengths (λ n. IsWidth (n / 32))
    (record { count = 64; whole = refl; short = lit< tt })
    (record { count = 32; whole = refl; short = lit< tt })
    (record { count = 16; whole = refl; short = lit< tt })
    (record { count = 8; whole = refl; short = lit< tt })
    (record { count = 4; whole = refl; short = lit< tt })

-- each bit of pieces in another order
pub reordered_at : (table : List ℕ) (n : ℕ) (from to : List ℕ) (m : ℕ) → IsTrue (is_code_length n) → m < n
    → IsReordered table (n / 32) from to 32 → word_bit to m ≡ word_bit from (reordered table (n / 32) m)
reordered_at table n from to m size l h =
    let w = n / 32 in
    let b = in_subblocks n size in
    ap (word_bit to) (sym (div-add-mod' m w))
    ∙ h.placed (m / w) (m % w) (subblock_below w m b.some (rw b.whole l)) (mod-lt m b.some)

-- no bit stands past them
pub reordered_empty : (table : List ℕ) (n : ℕ) (from to : List ℕ) → IsTrue (is_code_length n)
    → IsReordered table (n / 32) from to 32 → (i : ℕ) → n ≤ i → word_bit to i ≡ false
reordered_empty table n from to size h i l = let b = (in_subblocks n size).whole in h.empty i (omega arith)

-- the coded bits that are kept of the word in the order of sending
pub selected_words : (n k e : ℕ) (word ordered coded : List ℕ) → IsTrue (is_code_length n)
    → IsReordered subblock_order (n / 32) word ordered 32
    → ((i : ℕ) → i < e → word_bit coded i ≡ word_bit ordered (sent_place n k e i))
    → row_bits coded e ≡ selected n k e (word_bit word)
selected_words n k e word ordered coded size order sent =
    selected_by_each n k e (word_bit word) (row_bits coded e) (length-row coded e)
    (λ i l.
    let place = sent_place n k e i in
    let below : place < n = sent_below n k e i (positive n size) l in
    bit_of-row coded e i l
    ∙ sent i l
    ∙ reordered_at subblock_order n word ordered place size below order
    ∙ ap (word_bit word) (sym (position_reordered n place (in_subblocks n size))))

-- the first `at` words of a row stand behind 512 zeros
pub record IsBehind (bits : List Bool) (words : List ℕ) (at : ℕ) : Type 0 where
  pub size : length words ≡ 16
  pub zeros : (i : ℕ) → i < 512 → word_bit words i ≡ false
  pub placed : (i : ℕ) → i < 64 * at → word_bit words (512 + i) ≡ bit_of bits i

-- a row is that of its first bits, repeated, where each bit repeats one of them
pub repeats_by_row : (n : ℕ) (bits : List Bool) (words repeated : List ℕ) → 0 < n → n ≤ length bits → length bits ≤ 1728
    → ((i : ℕ) → i < 1728 → word_bit words i ≡ bit_of bits i)
    → ((i : ℕ) → i < length bits → word_bit repeated i ≡ word_bit words (i % n))
    → (row_bits repeated (length bits) ≡ bits) ↔ RepeatsBelow n bits (length bits)
repeats_by_row n bits words repeated some le most whole again =
    let len = length bits in
    let first = λ (i : ℕ) (l : i < len).
    let m : i % n < n = mod-lt i some in
    bit_of-row repeated len i l ∙ again i l ∙ whole (i % n) (omega arith)
    in (
      (λ e i g l. ap (λ (row : List Bool). bit_of row i) (sym e) ∙ first i l),
      (λ same.
          ext_get_or false (row_bits repeated len) bits (length-row repeated len)
          (λ i k.
          let l : i < len = omega (arith, length-row repeated len) in
          elim (cases_lt i n) [
            | inl f ↦ first i l ∙ ap (bit_of bits) (mod-eq_of_lt f)
            | inr g ↦ first i l ∙ sym (same i g l)
          ])),
    )

word_at_position : (n : ℕ) (ordered word : List ℕ) (p : ℕ) → IsTrue (is_code_length n) → p < n
    → IsReordered turn_order (n / 32) ordered word 32 → word_bit word p ≡ word_bit ordered (place_of n p)
unfolding place_of
word_at_position n ordered word p size l h = reordered_at turn_order n ordered word p size l h

-- what stands at a place in the order of sending is the bit that is sent there, or false
unsent : (n k empty : ℕ) (bits : List Bool) (ordered : List ℕ) (m : ℕ) → n ≤ 512 → m < n
    → ((i : ℕ) → i < length bits → i < n → sent_place n k (length bits) i ≡ empty + i)
    → ((i : ℕ) → i < empty → word_bit ordered i ≡ false)
    → ((i : ℕ) → empty + i < 512 → word_bit ordered (empty + i) ≡ bit_of bits i)
    → ((i : ℕ) → i < min (length bits) n → sent_place n k (length bits) i ≢ m) → word_bit ordered m ≡ false
unsent n k empty bits ordered m few below sent zeros there apart =
    elim (cases_lt m empty) [
      | inl l ↦ zeros m l
      | inr g ↦
          let i = m - empty in
          let place : empty + i ≡ m = omega arith in
          elim (cases_lt i (length bits)) [
            | inl l ↦ absurd (apart i (omega arith) (sent i l (omega arith) ∙ place))
            | inr h ↦ ap (word_bit ordered) (sym place) ∙ there i (omega arith) ∙ get_or-eq_default bits false h
          ]
    ]

put_words : (n k empty : ℕ) (bits : List Bool) (ordered word : List ℕ) → IsTrue (is_code_length n)
    → ((i : ℕ) → i < length bits → i < n → sent_place n k (length bits) i ≡ empty + i)
    → ((i : ℕ) → i < empty → word_bit ordered i ≡ false)
    → ((i : ℕ) → empty + i < 512 → word_bit ordered (empty + i) ≡ bit_of bits i)
    → IsReordered turn_order (n / 32) ordered word 32 → IsPut n k bits (row_bits word n) (min (length bits) n)
put_words n k empty bits ordered word size sent zeros there order =
    let e = length bits in
    let limit = (in_subblocks n size).limit in
    record {
      length_is = length-row word n;
      received =
          λ i l.
          let place = sent_place n k e i in
          let behind : place ≡ empty + i = sent i (omega arith) (omega arith) in
          let below : place < n = sent_below n k e i (positive n size) (omega arith) in
          let inside : position_at n place < n = position_below n place size in
          bit_of-row word n (position_at n place) inside
          ∙ word_at_position n ordered word (position_at n place) size inside order
          ∙ ap (word_bit ordered) (place_of-position_at n place size below ∙ behind)
          ∙ there i (omega arith);
      empty =
          λ p apart.
          elim (cases_lt p n) [
            | inl l ↦
                bit_of-row word n p l
                ∙ word_at_position n ordered word p size l order
                ∙ unsent n k empty bits ordered (place_of n p) limit (place_below n p size l) sent zeros there
                (λ i h same. apart i h (ap (position_at n) same ∙ position_at-place_of n p size l))
            | inr g ↦ bit_of-row_past word n p g
          ];
    }

-- the word that received bits leave in packed words
pub unselected_words : (n k empty : ℕ) (bits : List Bool) (ordered word : List ℕ) → IsTrue (is_code_length n)
    → RepeatsBelow n bits (length bits)
    → ((i : ℕ) → i < length bits → i < n → sent_place n k (length bits) i ≡ empty + i)
    → ((i : ℕ) → i < empty → word_bit ordered i ≡ false)
    → ((i : ℕ) → empty + i < 512 → word_bit ordered (empty + i) ≡ bit_of bits i)
    → IsReordered turn_order (n / 32) ordered word 32 → IsUnselected n k bits (row_bits word n)
unselected_words n k empty bits ordered word size same sent zeros there order =
    unselected n k bits (row_bits word n) (min (length bits) n) size refl same
    (put_words n k empty bits ordered word size sent zeros there order)
