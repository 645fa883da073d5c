-- The word that received bits leave, put there one after the other.
use Rattle.std.proofs.Common.{ℕ, ◌≡◌, ◌≢◌, ◌+◌, ◌%◌, ◌<◌, ◌≤◌, Bool, false, List, length, set, min, inl, inr, refl, ap, subst}
use Rattle.std.proofs.Common.{sym, ◌∙◌, arith, below_more, get_or-set_other, get_or-set_same, length-set}
use Rattle.std.specs.Prelude.{IsTrue}
use Rattle.std.proofs.lemmas.Bool.{cases_lt}
use Rattle.std.proofs.Math.Nat.{mod-eq_of_lt, mod-lt}
use Rattle.bits_core.specs.Bits.{bit_of}
use Rattle.bits_core.specs.CodeLengths.{is_code_length}
use Rattle.rate_match.specs.SubblockOrder.{position_at}
use Rattle.rate_match.specs.RateMatching.{selected, sent_place}
use Rattle.rate_match.specs.Received.{IsUnselected}
use Rattle.rate_match.specs.Repeats.{RepeatsBelow}
use Rattle.rate_match.proofs.Subblocks.{in_subblocks, position_below}
use Rattle.rate_match.proofs.Places.{position_once}
use Rattle.rate_match.proofs.Selected.{selected_by_each}
use Rattle.rate_match.proofs.Sent.{sent_below, sent_once, sent_repeated}

-- the first `count` of the received bits are put in a word of n bits
pub record IsPut (n k : ℕ) (bits d : List Bool) (count : ℕ) : Type 0 where
  pub length_is : length d ≡ n
  pub received : (i : ℕ) → i < count → bit_of d (position_at n (sent_place n k (length bits) i)) ≡ bit_of bits i
  pub empty :
      (position : ℕ) → ((i : ℕ) → i < count → position_at n (sent_place n k (length bits) i) ≢ position) →
      bit_of d position ≡ false

-- a code length is not 0
pub positive : (n : ℕ) → IsTrue (is_code_length n) → 0 < n
positive n h = let b = in_subblocks n h in let s = b.some in omega arith

-- the positions of two of the bits that are sent first
sent_apart : (n k e i j : ℕ) → IsTrue (is_code_length n) → i < e → j < e → i < n → j < n →
    position_at n (sent_place n k e i) ≡ position_at n (sent_place n k e j) → i ≡ j
sent_apart n k e i j h a b f g q =
    sent_once n k e i j a b f g
    (position_once n (sent_place n k e i) (sent_place n k e j) h (sent_below n k e i (positive n h) a)
    (sent_below n k e j (positive n h) b) q)

-- one bit more
pub put_more : (n k : ℕ) (bits d : List Bool) (count p : ℕ) (bit : Bool) → IsTrue (is_code_length n) → count < length bits
    → count < n →
    p ≡ position_at n (sent_place n k (length bits) count) → bit ≡ bit_of bits count → IsPut n k bits d count →
    IsPut n k bits (set d p bit) (count + 1)
put_more n k bits d count p bit h l m e b put =
    let e0 = length bits in
    let at = λ (i : ℕ). position_at n (sent_place n k e0 i) in
    let inside : at count < n = position_below n (sent_place n k e0 count) h in
    let below : at count < length d = (let w = put.length_is in omega arith) in
    record {
      length_is = length-set d p bit ∙ put.length_is;
      received =
          below_more (λ i. bit_of (set d p bit) (at i) ≡ bit_of bits i) count
          (λ i g.
          let other : at i ≢ p =
          λ same. (let once : i ≡ count = sent_apart n k e0 i count h (omega arith) l (omega arith) m (same ∙ e) in
          omega arith) in
          get_or-set_other d p (at i) bit false other ∙ put.received i g)
          (ap (λ (x : ℕ). bit_of (set d x bit) (at count)) e ∙ get_or-set_same d (at count) bit false below ∙ b);
      empty =
          λ position apart.
          let other : position ≢ p = λ same. apart count (omega arith) (sym e ∙ sym same) in
          get_or-set_other d p position bit false other ∙ put.empty position (λ i g. apart i (omega arith));
    }

-- those that are sent twice stand where the first of each stands
repeats_received : (n k : ℕ) (bits d : List Bool) (i : ℕ) → IsTrue (is_code_length n) → n ≤ length bits →
    RepeatsBelow n bits (length bits) → IsPut n k bits d n → n ≤ i → i < length bits →
    bit_of d (position_at n (sent_place n k (length bits) i)) ≡ bit_of bits i
repeats_received n k bits d i h l same put f g =
    let e = length bits in
    let m : i % n < n = mod-lt i (positive n h) in
    ap (λ (x : ℕ). bit_of d (position_at n x))
    (sent_repeated n k e i l ∙ sym (mod-eq_of_lt m) ∙ sym (sent_repeated n k e (i % n) l))
    ∙ put.received (i % n) m
    ∙ sym (same i f g)

unselected_repeated : (n k : ℕ) (bits d : List Bool) → IsTrue (is_code_length n) → n ≤ length bits →
    RepeatsBelow n bits (length bits) → IsPut n k bits d n → IsUnselected n k bits d
unselected_repeated n k bits d h l same put =
    record {
      length_is = put.length_is;
      received =
          λ i g.
          elim (cases_lt i n) [
            | inl f ↦ put.received i f
            | inr f ↦ repeats_received n k bits d i h l same put f g
          ];
      empty = λ position apart. put.empty position (λ i g. apart i (omega arith));
    }

unselected_once : (n k : ℕ) (bits d : List Bool) (count : ℕ) → count ≡ length bits → IsPut n k bits d count
    → IsUnselected n k bits d
unselected_once n k bits d count e put =
    record {
      length_is = put.length_is;
      received = λ i g. put.received i (omega arith);
      empty = λ position apart. put.empty position (λ i g. apart i (omega arith));
    }

-- all that are sent first
pub unselected : (n k : ℕ) (bits d : List Bool) (count : ℕ) → IsTrue (is_code_length n) → count ≡ min (length bits) n →
    RepeatsBelow n bits (length bits) → IsPut n k bits d count → IsUnselected n k bits d
unselected n k bits d count h e same put =
    elim (cases_lt (length bits) n) [
      | inl l ↦ unselected_once n k bits d count (omega arith) put
      | inr g ↦ unselected_repeated n k bits d h g same (subst (λ (x : ℕ). IsPut n k bits d x) (omega arith) put)
    ]

-- the received bits are sent of the word that they leave
pub selected_unselected : (n k : ℕ) (bits d : List Bool) → IsUnselected n k bits d → selected n k (length bits) (bit_of d) ≡ bits
selected_unselected n k bits d h = sym (selected_by_each n k (length bits) (bit_of d) bits refl (λ i l. sym (h.received i l)))
