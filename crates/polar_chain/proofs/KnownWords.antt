-- The known positions that carry no bit of a block, as flags in words.
use Rattle.std.proofs.Common.{ℕ, ◌≡◌, ◌+◌, ◌-◌, ◌*◌, ◌/◌, ◌%◌, ◌^◌, ◌<◌, ◌≤◌, zero, suc, Bool, true, false, not, ◌&&◌, eqb}
use Rattle.std.proofs.Common.{◌≢◌, lit<, List, length, bit_and, get_or, replicate, refl, set}
use Rattle.std.proofs.Common.{ap, sym, subst, ◌∙◌, inl, inr, arith, w64}
use Rattle.std.specs.Prelude.{IsTrue, ◌↔◌}
use Rattle.std.specs.Int.{bit_at}
use Rattle.std.proofs.lemmas.Bool.{cases_eq, cases_lt}
use Rattle.std.proofs.lemmas.List.{get_or-replicate, get_or_past}
use Rattle.std.proofs.lemmas.Nat.Bits.{bit_at-lt, bit_at_not, bit_at_ones}
use Rattle.bits_core.specs.Bits.{bit_of}
use Rattle.bits_core.specs.CodeLengths.{is_code_length}
use Rattle.bits_core.specs.Ones.{has_one}
use Rattle.bits_core.specs.Row.{row_bits, word_bit}
use Rattle.bits_core.proofs.Rows.{length-row}
use Rattle.bits_core.proofs.RowWords.{bit_of-row, has_one-zero, same_word, word_bit-at}
use Rattle.rate_match.specs.SubblockOrder.{position_at}
use Rattle.rate_match.specs.MotherCode.{length_of}
use Rattle.rate_match.specs.RateMatching.{sent_place}
use Rattle.rate_match.proofs.Lengths.{length_legal}
use Rattle.rate_match.specs.Received.{IsUnselected}
use Rattle.rate_match.proofs.Places.{place_below, place_of, position_at-place_of, position_once}
use Rattle.rate_match.proofs.Sent.{sent_punctured}
use Rattle.rate_match.proofs.Subblocks.{position_below}
use Rattle.rate_match.proofs.Subblocks.{in_subblocks}
use Rattle.polar_chain.specs.CodeShape.{CodeShape, word_len}
use Rattle.polar_chain.specs.KnownPlaces.{IsKnown, first_known}
use Rattle.polar_chain.specs.Reading.{OthersAreZero}
use Rattle.polar_chain.specs.TestedPlaces.{AreTested}
use Rattle.polar_kernel.proofs.WordBits.{has_one-and}
use Rattle.rate_match.proofs.WrittenWords.{word_bit-set_other, word_bit-set_same}
use Rattle.polar_chain.proofs.SentPlaces.{known_punctured}

-- the input bit of a position that is tested is 1
abbrev pub is_wrong : (ℕ → Bool) → (ℕ → Bool) → ℕ → Bool
is_wrong input tested i = input i && tested i

flipped : (x : ℕ) → x < 2 → eqb (1 - x) 1 ≡ not (eqb x 1)
flipped zero h = refl
flipped (suc zero) h = refl
flipped (suc (suc x)) h = absurd (omega arith)

-- a bit of a word without those of another
pub has_one-without : (known carrying i : ℕ) → carrying < 2 ^ 64 → i < 64
    → has_one (bit_and known (2 ^ 64 - 1 - carrying)) i ≡ (has_one known i && not (has_one carrying i))
has_one-without known carrying i h l =
    has_one-and known (2 ^ 64 - 1 - carrying) i
    ∙ ap (λ (b : Bool). has_one known i && b)
    (ap (λ (b : ℕ). eqb b 1) (bit_at_not w64 carrying i h l) ∙ flipped (bit_at carrying i) (bit_at-lt carrying i))

-- words of ones have each bit
pub word_bit-ones : (size i : ℕ) → i < 64 * size → word_bit (replicate size (2 ^ 64 - 1)) i ≡ true
word_bit-ones size i l =
    ap (λ (w : ℕ). has_one w (i % 64)) (get_or-replicate size (i / 64) (2 ^ 64 - 1) 0 (omega arith))
    ∙ ap (λ (b : ℕ). eqb b 1) (bit_at_ones 64 (i % 64) (omega arith))

-- a set of flags that tells of each position of a word of n bits whether it is known
abbrev pub TellsKnown : ℕ → ℕ → ℕ → (ℕ → Bool) → Type 0
TellsKnown n k e known = (m : ℕ) → m < n → IsTrue (known (position_at n m)) ↔ IsKnown n k e m

known_without : (a b : Bool) → (a && not b) ≡ true → (a ≡ true) × (b ≡ false)
known_without true false h = (refl, refl)
known_without true true h = absurd (let wrong : false ≡ true = h in cc)
known_without false b h = absurd (let wrong : false ≡ true = h in cc)

-- the flags of the known positions without those that carry a bit
pub tested_of_known : (n k e : ℕ) (known info tested : ℕ → Bool) → IsTrue (is_code_length n) → n ≤ 512 → TellsKnown n k e known
    → ((i : ℕ) → i < 512 → tested i ≡ (known i && not (info i))) → AreTested n k e info tested
tested_of_known n k e known info tested h most tells is = record {
  each =
      λ m l.
      let p = position_at n m in
      let below : p < n = position_below n m h in
      let same : tested p ≡ (known p && not (info p)) = is p (omega (arith, below, most)) in (
        (λ t. let both = known_without (known p) (info p) (sym same ∙ t) in ((tells m l).0 both.0, both.1)),
        (λ q. same ∙ rw ((tells m l).1 q.0, q.1) refl),
      );
}

-- where each position that is tested is 0, the others are
pub others_where_tested : (n k e : ℕ) (info tested u : ℕ → Bool) → IsTrue (is_code_length n) → n ≤ 512
    → AreTested n k e info tested → ((i : ℕ) → i < 512 → IsTrue (tested i) → u i ≡ false) → OthersAreZero n k e info u
others_where_tested n k e info tested u h most tells clear = record {
  each =
      λ m q f.
      let below : position_at n m < n = position_below n m h in
      clear (position_at n m) (omega (arith, below, most)) ((tells.each m q.below).1 (q, f));
}

-- and where the others are, each position that is tested is
pub tested_where_others : (n k e : ℕ) (info tested u : ℕ → Bool) → IsTrue (is_code_length n) → AreTested n k e info tested
    → ((i : ℕ) → n ≤ i → u i ≡ false) → OthersAreZero n k e info u → (i : ℕ) → i < 512 → IsTrue (tested i) → u i ≡ false
tested_where_others n k e info tested u h tells past others i l t =
    elim (cases_lt i n) [
      | inr g ↦ past i g
      | inl b ↦
          let m = place_of n i in
          let at : position_at n m ≡ i = position_at-place_of n i h b in
          let q = (tells.each m (place_below n i h b)).0 (ap tested at ∙ t) in
          ap u (sym at) ∙ others.each m q.0 q.1
    ]

-- both of the word of a code
pub others_of_tested : (s : CodeShape) (word : List Bool) (tested : List ℕ) → length word ≡ word_len s
    → AreTested (word_len s) s.block_len s.coded_len (bit_of s.positions) (word_bit tested)
    → ((i : ℕ) → i < 512 → IsTrue (word_bit tested i) → bit_of word i ≡ false)
    ↔ OthersAreZero (length word) s.block_len s.coded_len (bit_of s.positions) (bit_of word)
others_of_tested s word tested size tells =
    let n = word_len s in
    let k = s.block_len in
    let e = s.coded_len in
    let info = bit_of s.positions in
    let legal = length_legal k e in
    let most = (in_subblocks n legal).limit in
    let Others : ℕ → Type 0 = λ x. OthersAreZero x k e info (bit_of word) in (
      (λ clear. subst Others (sym size) (others_where_tested n k e info (word_bit tested) (bit_of word) legal most tells clear)),
      (λ others i l t.
          tested_where_others n k e info (word_bit tested) (bit_of word) legal tells
          (λ j past. get_or_past word j false (omega (arith, size, past))) (subst Others size others) i l t),
    )

-- the words of the flags, one more
pub tested_more : (known carrying words : List ℕ) (at w : ℕ) → at < length words
    → ((i : ℕ) → i < 64 → has_one w i ≡ (has_one (get_or known at 0) i && not (has_one (get_or carrying at 0) i)))
    → ((i : ℕ) → i < 64 * at → word_bit words i ≡ (word_bit known i && not (word_bit carrying i)))
    → (i : ℕ) → i < 64 * (at + 1) → word_bit (set words at w) i ≡ (word_bit known i && not (word_bit carrying i))
tested_more known carrying words at w inside bits before i l =
    elim (cases_eq (i / 64) at) [
      | inl e ↦
          word_bit-set_same words at w i e inside
          ∙ bits (i % 64) (omega arith)
          ∙ ap (λ (q : ℕ). has_one (get_or known q 0) (i % 64) && not (has_one (get_or carrying q 0) (i % 64))) (sym e)
      | inr ne ↦ word_bit-set_other words at w i ne ∙ before i (omega arith)
    ]

-- a bit that is not 1 where it is tested
pub zero_where_right : (a b : Bool) → (a && b) ≡ false → b ≡ true → a ≡ false
zero_where_right false b h e = refl
zero_where_right true b h e = absurd (let wrong : true ≡ false = sym e ∙ h in cc)

-- and the way back
pub right_where_zero : (a b : Bool) → (b ≡ true → a ≡ false) → (a && b) ≡ false
right_where_zero true true h = h refl
right_where_zero true false h = refl
right_where_zero false b h = refl

-- the length of a word is a code length
pub legal_length : (n k e : ℕ) → n ≡ length_of k e → IsTrue (is_code_length n)
legal_length n k e size = subst (λ (x : ℕ). IsTrue (is_code_length x)) (sym size) (length_legal k e)

-- a row of so many bits of words has as many
pub row_long : (words : List ℕ) (bits : List Bool) (e : ℕ) → bits ≡ row_bits words e → length bits ≡ e
row_long words bits e same = ap (λ (b : List Bool). length b) same ∙ length-row words e

-- what is received where each bit that is sent is 1 has ones at the positions that are sent
pub ones_where_sent : (n k e : ℕ) (bits : List Bool) (word : List ℕ) → IsTrue (is_code_length n)
    → bits ≡ row_bits (replicate 27 (2 ^ 64 - 1)) e → e ≤ 1728 → IsUnselected n k bits (row_bits word n)
    → (i : ℕ) → i < e → word_bit word (position_at n (sent_place n k e i)) ≡ true
ones_where_sent n k e bits word h same most q i l =
    let ones : List ℕ = replicate 27 (2 ^ 64 - 1) in
    let long = row_long ones bits e same in
    let p = position_at n (sent_place n k e i) in
    let received : bit_of (row_bits word n) p ≡ bit_of bits i =
    subst (λ (x : ℕ). bit_of (row_bits word n) (position_at n (sent_place n k x i)) ≡ bit_of bits i) long
    (q.received i (omega (arith, long, l))) in
    sym (bit_of-row word n p (position_below n (sent_place n k e i) h))
    ∙ received
    ∙ ap (λ (b : List Bool). bit_of b i) same
    ∙ bit_of-row ones e i l
    ∙ word_bit-ones 27 i (omega (arith, l, most))

-- and zeros at the others
pub zero_where_unsent : (n k e : ℕ) (bits : List Bool) (word : List ℕ) → length bits ≡ e → IsUnselected n k bits (row_bits word n)
    → (position : ℕ) → position < n → ((i : ℕ) → i < e → position_at n (sent_place n k e i) ≢ position)
    → word_bit word position ≡ false
zero_where_unsent n k e bits word long q position l none =
    sym (bit_of-row word n position l)
    ∙ q.empty position
    (λ i b same.
    none i (omega (arith, long, b)) (ap (λ (x : ℕ). position_at n (sent_place n k x i)) (sym long) ∙ same))

-- with puncturing the known positions are those that are sent
pub known_where_sent : (n k e : ℕ) (known : ℕ → Bool) → IsTrue (is_code_length n) → e < n → 16 * k ≤ 7 * e
    → ((i : ℕ) → i < e → known (position_at n (sent_place n k e i)) ≡ true)
    → ((position : ℕ) → position < n → ((i : ℕ) → i < e → position_at n (sent_place n k e i) ≢ position)
    → known position ≡ false)
    → TellsKnown n k e known
known_where_sent n k e known h f g sent others m l =
    let first = known_punctured n k e f g in
    let place : (i : ℕ) → sent_place n k e i ≡ i + (n - e) = λ i. sent_punctured n k e i f g in
    elim (cases_lt m (n - e)) [
      | inl before ↦
          let unknown : known (position_at n m) ≡ false =
          others (position_at n m) (position_below n m h)
          (λ i b same.
          let at = place i in
          let once = position_once n (sent_place n k e i) m h (omega (arith, at, b, f)) l same in
          omega (arith, at, once, before)) in (
            (λ is. absurd (let wrong : true ≡ false = sym is ∙ unknown in cc)),
            (λ q. absurd (let from = q.from in omega (arith, from, first, before))),
          )
      | inr from ↦
          let i = m - (n - e) in
          let at : sent_place n k e i ≡ m = place i ∙ omega (arith, from) in (
            (λ is. record { from = omega (arith, from, first); below = l }),
            (λ q. subst (λ (x : ℕ). known (position_at n x) ≡ true) at (sent i (omega (arith, from, l, f)))),
          )
    ]

-- without puncturing each position is known
pub all_known : (n k e : ℕ) → IsTrue (is_code_length n) → n ≤ 512 → first_known n k e ≡ 0
    → TellsKnown n k e (word_bit (replicate 8 (2 ^ 64 - 1)))
all_known n k e h most first m l = (
  (λ is. record { from = omega (arith, first); below = l }),
  (λ q. let below = position_below n m h in word_bit-ones 8 (position_at n m) (omega (arith, below, most))),
)

-- the bits of the words at one place
pub word_astray : (word : List Bool) (tested : List ℕ) (at w v : ℕ)
    → ((i : ℕ) → i < 64 → has_one w i ≡ bit_of word (64 * at + i))
    → ((i : ℕ) → has_one v i ≡ (has_one w i && has_one (get_or tested at 0) i))
    → (i : ℕ) → i < 64 → has_one v i ≡ is_wrong (bit_of word) (word_bit tested) (64 * at + i)
word_astray word tested at w v bits astray i l =
    astray i
    ∙ ap (λ (b : Bool). b && has_one (get_or tested at 0) i) (bits i l)
    ∙ ap (λ (b : Bool). bit_of word (64 * at + i) && b) (sym (word_bit-at tested at i l))

-- one word more without a wrong bit
pub right_more : (wrong : ℕ → Bool) (at v : ℕ) → ((i : ℕ) → i < 64 → has_one v i ≡ wrong (64 * at + i)) → v ≡ 0
    → ((i : ℕ) → i < 64 * at → wrong i ≡ false) → (i : ℕ) → i < 64 * (at + 1) → wrong i ≡ false
right_more wrong at v bits none before i l =
    elim (cases_lt i (64 * at)) [
      | inl b ↦ before i b
      | inr from ↦
          let place : 64 * at + (i - 64 * at) ≡ i = omega (arith, from) in
          ap wrong (sym place) ∙ sym (bits (i - 64 * at) (omega (arith, from, l)))
          ∙ ap (λ (w : ℕ). has_one w (i - 64 * at)) none ∙ has_one-zero (i - 64 * at)
    ]

-- a word that is not 0 has a wrong bit
pub some_wrong : (wrong : ℕ → Bool) (at v : ℕ) → v < 2 ^ 64 → at < 8
    → ((i : ℕ) → i < 64 → has_one v i ≡ wrong (64 * at + i)) → (v ≡ 0 → ⊥) → ((i : ℕ) → i < 512 → wrong i ≡ false) → ⊥
some_wrong wrong at v small low bits some right =
    some (same_word v 0 small (lit< tt) (λ i l. bits i l ∙ right (64 * at + i) (omega arith) ∙ sym (has_one-zero i)))
