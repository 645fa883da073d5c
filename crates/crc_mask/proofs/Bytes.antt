-- Many bits that go into the register at once.
use Rattle.std.proofs.Common.{◌≡◌, ℕ, zero, suc, ◌+◌, ◌-◌, ◌<◌, ◌≤◌, Bool, true, false, ◌&&◌, List, length, refl, ap, sym, ◌∙◌}
use Rattle.std.proofs.Common.{inl, inr, ◌*◌, ◌^◌, arith, drop, replicate, slice_range, subst}
use Rattle.std.proofs.lemmas.Bool.{cases_lt}
use Rattle.std.proofs.lemmas.List.{get_or_past, get_or-replicate, get_or-take, get_or-drop, length-drop, length-take}
use Rattle.std.proofs.lemmas.List.FromFn.{length-map-range_with_len, get_or-map-range_with_len}
use Rattle.bits_core.specs.Bits.{plus, bit_of, bits_of, number_of, sum_below}
use Rattle.bits_core.proofs.Numbers.{length-bits_of, number_of_lt, bits_of-number_of}
use Rattle.bits_core.proofs.Sums.{plus_comm, plus_assoc, plus-false}
use Rattle.crc_mask.specs.Parity.{generator, remainder, covered}
use Rattle.crc_mask.specs.Register.{advanced, fed, shifted_byte}
use Rattle.crc_mask.proofs.Registers.{so_far, so_far_past, so_far-suc, advanced-at, IsRegister, register_none, register_more}
use Rattle.crc_mask.proofs.Registers.{covered_front, covered_rest}

length-advanced : (r : List Bool) (bit : Bool) → length (advanced r bit) ≡ 24
unfolding advanced
length-advanced r bit =
    length-map-range_with_len (λ j. plus (bit_of r (j + 1)) (plus (bit_of r 0) bit && bit_of generator j)) 0 24

-- a register has 24 bits, whatever went in
pub length-fed : (r bits : List Bool) (count : ℕ) → length r ≡ 24 → length (fed r bits count) ≡ 24
unfolding fed
length-fed r bits zero size = size
length-fed r bits (suc count) size = length-advanced (fed r bits count) (bit_of bits count)

and_plus : (a b g : Bool) → (plus a b && g) ≡ plus (a && g) (b && g)
and_plus true true true = refl
and_plus true true false = refl
and_plus true false true = refl
and_plus true false false = refl
and_plus false b g = refl

-- what went in before, what leaves and what comes, in another order
regroup : (high low top first bit g : Bool)
    → plus (plus high low) (plus (plus top first) bit && g)
    ≡ plus high (plus (plus low (first && g)) (plus top bit && g))
regroup high low top first bit g =
    let swapped : plus (plus top first) bit ≡ plus first (plus top bit) =
    ap (λ (x : Bool). plus x bit) (plus_comm top first) ∙ plus_assoc first top bit
    in
    ap (λ (x : Bool). plus (plus high low) (x && g)) swapped
    ∙ ap (λ (x : Bool). plus (plus high low) x) (and_plus first (plus top bit) g)
    ∙ plus_assoc high low (plus (first && g) (plus top bit && g))
    ∙ ap (λ (x : Bool). plus high x) (sym (plus_assoc low (first && g) (plus top bit && g)))

fed_past : (r bits both : List Bool) (count j : ℕ) → length r ≡ 24 → 24 ≤ j
    → bit_of (fed r bits count) j ≡ plus (bit_of r (j + count)) (so_far both count j)
fed_past r bits both count j size h =
    get_or_past (fed r bits count) j false (omega (arith, length-fed r bits count size))
    ∙ sym (ap (λ (b : Bool). plus b (so_far both count j)) (get_or_past r (j + count) false (omega arith))
    ∙ so_far_past both count j h)

fed_next : (r bits both : List Bool) (count j : ℕ) → j < 24 → bit_of both count ≡ plus (bit_of r count) (bit_of bits count)
    → ((k : ℕ) → bit_of (fed r bits count) k ≡ plus (bit_of r (k + count)) (so_far both count k))
    → bit_of (fed r bits (suc count)) j ≡ plus (bit_of r (j + suc count)) (so_far both (suc count) j)
unfolding fed
fed_next r bits both count j h is before =
    let g : Bool = bit_of generator j in
    let bit : Bool = bit_of bits count in
    let place : j + 1 + count ≡ j + suc count = omega arith in
    let left : bit_of r (0 + count) ≡ bit_of r count = ap (bit_of r) (omega arith) in
    let first : Bool = so_far both count 0 in
    advanced-at (fed r bits count) bit j h
    ∙ ap (λ (b : Bool). plus b (plus (bit_of (fed r bits count) 0) bit && g)) (before (j + 1))
    ∙ ap (λ (b : Bool). plus (plus (bit_of r (j + 1 + count)) (so_far both count (j + 1))) (plus b bit && g)) (before 0)
    ∙ regroup (bit_of r (j + 1 + count)) (so_far both count (j + 1)) (bit_of r (0 + count)) first bit g
    ∙ ap (λ (b : Bool). plus (bit_of r (j + 1 + count)) (plus (plus (so_far both count (j + 1)) (first && g)) (b && g)))
    (ap (λ (b : Bool). plus b bit) left ∙ sym is)
    ∙ ap (λ (b : Bool). plus (bit_of r (j + 1 + count)) b) (sym (so_far-suc both count j h))
    ∙ ap (λ (k : ℕ). plus (bit_of r k) (so_far both (suc count) j)) place

-- the register is what moved up, plus the remainder of what left and came
pub fed_is : (r bits both : List Bool) (count : ℕ) → length r ≡ 24
    → ((i : ℕ) → i < count → bit_of both i ≡ plus (bit_of r i) (bit_of bits i))
    → (j : ℕ) → bit_of (fed r bits count) j ≡ plus (bit_of r (j + count)) (so_far both count j)
unfolding fed so_far sum_below
fed_is r bits both zero size is j =
    let place : j ≡ j + 0 = omega arith in
    ap (bit_of r) place ∙ sym (plus-false (bit_of r (j + 0)))
fed_is r bits both (suc count) size is j =
    elim (cases_lt j 24)
    as (λ _. bit_of (fed r bits (suc count)) j ≡ plus (bit_of r (j + suc count)) (so_far both (suc count) j)) [
      | inl l ↦
          fed_next r bits both count j l (is count (omega arith))
          (fed_is r bits both count size (λ i m. is i (omega arith)))
      | inr l ↦ fed_past r bits both (suc count) j size l
    ]

-- the next bits of a message go into its register
pub register_fed : (message r bits : List Bool) (m count : ℕ) → length r ≡ 24 → IsRegister message m r
    → ((i : ℕ) → i < count → bit_of bits i ≡ bit_of message (m + i)) → IsRegister message (m + count) (fed r bits count)
unfolding fed
register_fed message r bits m zero size so is j h =
    so j h ∙ ap (λ (n : ℕ). so_far message n j) (omega arith)
register_fed message r bits m (suc count) size so is j h =
    let place : m + count + 1 ≡ m + suc count = omega arith in
    register_more message (fed r bits count) (advanced (fed r bits count) (bit_of bits count)) (m + count) (bit_of bits count)
    (length-fed r bits count size) (register_fed message r bits m count size so (λ i l. is i (omega arith)))
    (is count (omega arith)) refl j h
    ∙ ap (λ (n : ℕ). so_far message n j) place

after_ones_is : bits_of 24 0x32e241 ≡ fed (bits_of 24 0) (replicate 24 true) 24
unfolding fed advanced generator
after_ones_is = refl

-- the register once the ones have gone in
pub register_ones : (payload : List Bool) → IsRegister (covered payload) 24 (bits_of 24 0x32e241)
register_ones payload =
    let R : List Bool → Type 0 = λ r. IsRegister (covered payload) 24 r in
    subst R (sym after_ones_is)
    (register_fed (covered payload) (bits_of 24 0) (replicate 24 true) 0 24 (length-bits_of 24 0)
    (register_none (covered payload))
    (λ i l.
    let place : i ≡ 0 + i = omega arith in
    get_or-replicate 24 i true false l ∙ sym (covered_front payload i l) ∙ ap (bit_of (covered payload)) place))

-- the table's remainder of a byte
pub shifted_byte-at : (byte j : ℕ) → j < 24 → bit_of (shifted_byte byte) j ≡ so_far (bits_of 8 byte) 8 j
unfolding shifted_byte so_far
shifted_byte-at byte j h =
    get_or-map-range_with_len (λ j. sum_below 8 (λ i. bit_of (bits_of 8 byte) i && bit_of (remainder (31 - i)) j)) 0 24 j j false
    h (omega arith)

-- it has 24 bits
pub length-shifted_byte : (byte : ℕ) → length (shifted_byte byte) ≡ 24
unfolding shifted_byte
length-shifted_byte byte =
    length-map-range_with_len (λ j. sum_below 8 (λ i. bit_of (bits_of 8 byte) i && bit_of (remainder (31 - i)) j)) 0 24

-- a byte of a row
abbrev byte_at : List Bool → ℕ → List Bool
byte_at payload at = slice_range payload (8 * at) (8 * at + 8)

length-byte_at : (payload : List Bool) (at : ℕ) → 8 * at + 8 ≤ length payload → length (byte_at payload at) ≡ 8
length-byte_at payload at within =
    omega (arith, length-take (8 * at + 8 - 8 * at) (drop (8 * at) payload), length-drop (8 * at) payload)

-- a byte that was read is below 256
pub byte_lt : (payload : List Bool) (at number : ℕ) → 8 * at + 8 ≤ length payload
    → number ≡ number_of (slice_range payload (8 * at) (8 * at + 8)) → number < 256
byte_lt payload at number within is =
    let bits : List Bool = byte_at payload at in
    let P : ℕ → Type 0 = λ n. number_of bits < 2 ^ n in
    let below : number_of bits < 2 ^ 8 = subst P (length-byte_at payload at within) (number_of_lt bits) in
    omega arith

bit_of-byte : (payload : List Bool) (at number i : ℕ) → 8 * at + 8 ≤ length payload
    → number ≡ number_of (slice_range payload (8 * at) (8 * at + 8)) → i < 8
    → bit_of (bits_of 8 number) i ≡ bit_of payload (8 * at + i)
bit_of-byte payload at number i within is l =
    let bits : List Bool = byte_at payload at in
    let spelled : bits_of 8 number ≡ bits =
    ap (bits_of 8) is
    ∙ ap (λ (n : ℕ). bits_of n (number_of bits)) (sym (length-byte_at payload at within))
    ∙ bits_of-number_of bits
    in
    ap (λ (x : List Bool). bit_of x i) spelled
    ∙ get_or-take (8 * at + 8 - 8 * at) (drop (8 * at) payload) i false (omega arith)
    ∙ get_or-drop (8 * at) payload i false

-- a register at a place is one at the same place
pub register_at : (payload : List Bool) (m n : ℕ) (r : List Bool) → m ≡ n → IsRegister (covered payload) (24 + m) r
    → IsRegister (covered payload) (24 + n) r
register_at payload m n r e so j h = so j h ∙ ap (λ (k : ℕ). so_far (covered payload) (24 + k) j) e

-- the next byte of a payload goes into the register
pub byte_next : (payload : List Bool) (at r number new : ℕ) → 8 * at + 8 ≤ length payload
    → number ≡ number_of (slice_range payload (8 * at) (8 * at + 8)) → IsRegister (covered payload) (24 + 8 * at) (bits_of 24 r)
    → bits_of 24 new ≡ fed (bits_of 24 r) (bits_of 8 number) 8
    → IsRegister (covered payload) (24 + 8 * (at + 1)) (bits_of 24 new)
byte_next payload at r number new within is so e j h =
    let place : 24 + 8 * at + 8 ≡ 24 + 8 * (at + 1) = omega arith in
    ap (λ (x : List Bool). bit_of x j) e
    ∙ register_fed (covered payload) (bits_of 24 r) (bits_of 8 number) (24 + 8 * at) 8 (length-bits_of 24 r) so
    (λ i l.
    let behind : 24 + 8 * at + i - 24 ≡ 8 * at + i = omega arith in
    bit_of-byte payload at number i within is l
    ∙ sym (covered_rest payload (24 + 8 * at + i) (omega arith) ∙ ap (bit_of payload) behind)) j h
    ∙ ap (λ (n : ℕ). so_far (covered payload) n j) place

-- the next bit of a payload goes into the register
pub bit_next : (payload : List Bool) (place r new : ℕ) (bit : Bool) → bit ≡ bit_of payload place
    → IsRegister (covered payload) (24 + place) (bits_of 24 r) → bits_of 24 new ≡ advanced (bits_of 24 r) bit
    → IsRegister (covered payload) (24 + (place + 1)) (bits_of 24 new)
bit_next payload place r new bit is so e j h =
    let behind : 24 + place - 24 ≡ place = omega arith in
    let next : 24 + place + 1 ≡ 24 + (place + 1) = omega arith in
    register_more (covered payload) (bits_of 24 r) (bits_of 24 new) (24 + place) bit (length-bits_of 24 r) so
    (is ∙ sym (covered_rest payload (24 + place) (omega arith) ∙ ap (bit_of payload) behind)) e j h
    ∙ ap (λ (n : ℕ). so_far (covered payload) n j) next
