-- The parity register holds the remainder of the bits that went in.
use Rattle.std.proofs.Common.{◌≡◌, ℕ, suc, ◌+◌, ◌-◌, ◌<◌, ◌≤◌, Bool, true, false, ◌&&◌, eqb, List, length, replicate, refl, ap}
use Rattle.std.proofs.Common.{sym, ◌∙◌, inl, inr, arith, add-one}
use Rattle.std.proofs.lemmas.Bool.{cases_lt, and_right}
use Rattle.std.proofs.lemmas.List.{get_or_past, get_or-replicate, get_or_append_left, get_or-append_right, length-replicate}
use Rattle.std.proofs.lemmas.List.FromFn.{get_or-map-range_with_len, fill_by_all}
use Rattle.std.proofs.lemmas.Nat.Bits.{bit_at-zero}
use Rattle.bits_core.specs.Bits.{plus, sum_below, bit_of, bits_of}
use Rattle.bits_core.proofs.Numbers.{get_or-bits_of}
use Rattle.bits_core.proofs.Sums.{sum_below_same, sum_below-zero, sum_below-plus, sum_below-suc, sum_below-and}
use Rattle.crc_mask.specs.Parity.{generator, remainder, parity, covered}
use Rattle.crc_mask.specs.Register.{advanced}
use Rattle.crc_mask.proofs.Remainders.{remainder_past, remainder-suc, remainder_24}

-- bit j of the remainder of the first m bits of a message, times D^24
unfoldable pub so_far : List Bool → ℕ → ℕ → Bool
so_far message m j = sum_below m (λ i. bit_of message i && bit_of (remainder (m + 23 - i)) j)

-- the register after m bits of a message
abbrev pub IsRegister : List Bool → ℕ → List Bool → Type 0
IsRegister message m r = (j : ℕ) → j < 24 → bit_of r j ≡ so_far message m j

-- no bits stand past the 24
pub so_far_past : (message : List Bool) (m j : ℕ) → 24 ≤ j → so_far message m j ≡ false
unfolding so_far
so_far_past message m j h =
    sum_below-zero m (λ i. bit_of message i && bit_of (remainder (m + 23 - i)) j)
    (λ i l. and_right (bit_of message i) (bit_of (remainder (m + 23 - i)) j) (remainder_past (m + 23 - i) j h))

-- a bit of the register once one more has gone in
pub advanced-at : (r : List Bool) (bit : Bool) (j : ℕ) → j < 24
    → bit_of (advanced r bit) j ≡ plus (bit_of r (j + 1)) (plus (bit_of r 0) bit && bit_of generator j)
unfolding advanced
advanced-at r bit j h =
    get_or-map-range_with_len (λ j. plus (bit_of r (j + 1)) (plus (bit_of r 0) bit && bit_of generator j)) 0 24 j j false h
    (omega arith)

regroup : (a b c g : Bool) → plus a (plus b c && g) ≡ plus (plus a (b && g)) (c && g)
regroup true true true true = refl
regroup true true true false = refl
regroup true true false true = refl
regroup true true false false = refl
regroup true false true true = refl
regroup true false true false = refl
regroup true false false true = refl
regroup true false false false = refl
regroup false true true true = refl
regroup false true true false = refl
regroup false true false true = refl
regroup false true false false = refl
regroup false false true true = refl
regroup false false true false = refl
regroup false false false true = refl
regroup false false false false = refl

spread : (x a b g : Bool) → (x && plus a (b && g)) ≡ plus (x && a) ((x && b) && g)
spread true a b g = refl
spread false a b g = refl

-- one more bit of the message goes into the sum
pub so_far-suc : (message : List Bool) (m j : ℕ) → j < 24
    → so_far message (suc m) j
    ≡ plus (plus (so_far message m (j + 1)) (so_far message m 0 && bit_of generator j))
    (bit_of message m && bit_of generator j)
unfolding so_far
so_far-suc message m j h =
    let g : Bool = bit_of generator j in
    let high : ℕ → Bool = λ i. bit_of message i && bit_of (remainder (m + 23 - i)) (j + 1) in
    let top : ℕ → Bool = λ i. bit_of message i && bit_of (remainder (m + 23 - i)) 0 in
    let term : (i : ℕ) → i < m → (bit_of message i && bit_of (remainder (suc m + 23 - i)) j) ≡ plus (high i) (top i && g) =
    λ i l.
    let step : suc m + 23 - i ≡ suc (m + 23 - i) = omega arith in
    ap (λ (k : ℕ). bit_of message i && bit_of (remainder k) j) step
    ∙ ap (λ (b : Bool). bit_of message i && b) (remainder-suc (m + 23 - i) j h)
    ∙ spread (bit_of message i) (bit_of (remainder (m + 23 - i)) (j + 1)) (bit_of (remainder (m + 23 - i)) 0) g
    in
    let last : bit_of (remainder (suc m + 23 - m)) j ≡ g =
    let e : suc m + 23 - m ≡ 24 = omega arith in
    ap (λ (k : ℕ). bit_of (remainder k) j) e ∙ ap (λ (r : List Bool). bit_of r j) remainder_24
    in
    sum_below-suc m (λ i. bit_of message i && bit_of (remainder (suc m + 23 - i)) j)
    ∙ ap (λ (b : Bool). plus b (bit_of message m && bit_of (remainder (suc m + 23 - m)) j))
    (sum_below_same m (λ i. bit_of message i && bit_of (remainder (suc m + 23 - i)) j) (λ i. plus (high i) (top i && g)) term
    ∙ sum_below-plus m high (λ i. top i && g)
    ∙ ap (λ (b : Bool). plus (sum_below m high) b) (sum_below-and m top g))
    ∙ ap (λ (b : Bool). plus (plus (sum_below m high) (sum_below m top && g)) (bit_of message m && b)) last

-- an empty message
pub register_none : (message : List Bool) → IsRegister message 0 (bits_of 24 0)
unfolding so_far sum_below
register_none message j h = get_or-bits_of 24 0 j h ∙ ap (λ (b : ℕ). eqb b 1) (bit_at-zero (24 - 1 - j))

-- one more bit goes into the register
pub register_more : (message r new : List Bool) (m : ℕ) (bit : Bool) → length r ≡ 24 → IsRegister message m r
    → bit ≡ bit_of message m → new ≡ advanced r bit → IsRegister message (m + 1) new
register_more message r new m bit size so read is j h =
    let next : bit_of r (j + 1) ≡ so_far message m (j + 1) =
    elim (cases_lt (j + 1) 24)
    [ inl l ↦ so (j + 1) l | inr l ↦ get_or_past r (j + 1) false (omega arith) ∙ sym (so_far_past message m (j + 1) l) ]
    in
    let g : Bool = bit_of generator j in
    ap (λ (r : List Bool). bit_of r j) is
    ∙ advanced-at r bit j h
    ∙ ap (λ (b : Bool). plus b (plus (bit_of r 0) bit && g)) next
    ∙ ap (λ (b : Bool). plus (so_far message m (j + 1)) (plus b bit && g)) (so 0 (omega arith))
    ∙ ap (λ (b : Bool). plus (so_far message m (j + 1)) (plus (so_far message m 0) b && g)) read
    ∙ regroup (so_far message m (j + 1)) (so_far message m 0) (bit_of message m) g
    ∙ sym (so_far-suc message m j h)
    ∙ ap (λ (n : ℕ). so_far message n j) (sym (add-one m))

-- the whole message has gone in
pub register_all : (payload r : List Bool) (m : ℕ) → m ≡ length payload + 24 → length r ≡ 24
    → IsRegister (covered payload) m r → r ≡ parity payload
unfolding so_far parity
register_all payload r m e size so =
    fill_by_all (λ j. sum_below (length payload + 24)
    (λ i. bit_of (covered payload) i && bit_of (remainder (length payload + 47 - i)) j)) r 24 false size
    (λ j h.
    so j h
    ∙ ap (λ (n : ℕ). sum_below n (λ i. bit_of (covered payload) i && bit_of (remainder (n + 23 - i)) j)) e
    ∙ sum_below_same (length payload + 24)
    (λ i. bit_of (covered payload) i && bit_of (remainder (length payload + 24 + 23 - i)) j)
    (λ i. bit_of (covered payload) i && bit_of (remainder (length payload + 47 - i)) j)
    (λ i l.
    let same : length payload + 24 + 23 - i ≡ length payload + 47 - i = omega arith in
    ap (λ (k : ℕ). bit_of (covered payload) i && bit_of (remainder k) j) same))

-- the ones, then the payload
pub covered_front : (payload : List Bool) (place : ℕ) → place < 24 → bit_of (covered payload) place ≡ true
covered_front payload place h =
    let within : place < length (replicate 24 true) = omega (arith, length-replicate 24 true) in
    get_or_append_left (replicate 24 true) payload false place within ∙ get_or-replicate 24 place true false h

-- behind the 24 ones the payload stands
pub covered_rest : (payload : List Bool) (place : ℕ) → 24 ≤ place → bit_of (covered payload) place ≡ bit_of payload (place - 24)
covered_rest payload place h = get_or-append_right (replicate 24 true) payload 24 place false (length-replicate 24 true) h
