-- The register as a number of 24 bits.
use Rattle.std.proofs.Common.{◌≡◌, ℕ, ◌+◌, ◌-◌, ◌*◌, ◌/◌, ◌%◌, ◌^◌, ◌<◌, ◌≤◌, min, Bool, true, false, not, ◌&&◌, eqb}
use Rattle.std.proofs.Common.{List, length, replicate, ◌++◌, bit_and, bit_xor, refl, ap, sym, ◌∙◌, inl, inr, arith, pow_pos}
use Rattle.std.specs.Int.{bit_at}
use Rattle.std.specs.Bool.{beq}
use Rattle.std.proofs.lemmas.Bool.{cases_lt}
use Rattle.std.proofs.lemmas.List.{get_or_past, get_or-replicate, get_or_append_left, get_or-append_right}
use Rattle.std.proofs.lemmas.List.{length-replicate}
use Rattle.std.proofs.lemmas.List.FromFn.{fill_by_all}
use Rattle.std.proofs.lemmas.Nat.{and_le_r}
use Rattle.std.proofs.lemmas.Nat.Bits.{bit_at-zero, bit_at-lt, bit_at_xor, bit_at_and, bit_at_ones, bit_at_above, bit_at_cat_low}
use Rattle.std.proofs.lemmas.Nat.Bits.{bit_at_cat_high}
use Rattle.bits_core.specs.Bits.{plus, bit_of, bits_of}
use Rattle.bits_core.proofs.Numbers.{length-bits_of, get_or-bits_of}
use Rattle.bits_core.proofs.Sums.{bit_sum, plus-false}
use Rattle.crc_mask.specs.Parity.{generator, mask, masked, parity}
use Rattle.crc_mask.specs.Register.{advanced}

-- the bits of an exclusive or are sums of bits
pub bit_of_xor : (width a b j : ℕ) → j < width
    → bit_of (bits_of width (bit_xor a b)) j ≡ plus (bit_of (bits_of width a) j) (bit_of (bits_of width b) j)
bit_of_xor width a b j h =
    get_or-bits_of width (bit_xor a b) j h
    ∙ ap (λ (n : ℕ). eqb n 1) (bit_at_xor a b (width - 1 - j))
    ∙ bit_sum (bit_at a (width - 1 - j)) (bit_at b (width - 1 - j)) (bit_at-lt a (width - 1 - j)) (bit_at-lt b (width - 1 - j))
    ∙ ap (λ (x : Bool). plus x (eqb (bit_at b (width - 1 - j)) 1)) (sym (get_or-bits_of width a j h))
    ∙ ap (λ (x : Bool). plus (bit_of (bits_of width a) j) x) (sym (get_or-bits_of width b j h))

-- zero has no ones
pub bit_of_zero : (width j : ℕ) → bit_of (bits_of width 0) j ≡ false
bit_of_zero width j =
    elim (cases_lt j width) as (λ _. bit_of (bits_of width 0) j ≡ false) [
      | inl l ↦ get_or-bits_of width 0 j l ∙ ap (λ (b : ℕ). eqb b 1) (bit_at-zero (width - 1 - j))
      | inr l ↦ get_or_past (bits_of width 0) j false (omega (arith, length-bits_of width 0))
    ]

min-one : (n : ℕ) → n < 2 → min n 1 ≡ n
min-one n h = omega arith

-- a register moved up by so many places: the bits that come in are 0
abbrev pub moved_by : ℕ → ℕ → ℕ
moved_by count r = bit_and (r * 2 ^ count % 2 ^ 32) (2 ^ 24 - 1)

-- a register that was moved has 24 bits
pub moved_by_lt : (count r : ℕ) → moved_by count r < 2 ^ 24
moved_by_lt count r = omega (arith, and_le_r (r * 2 ^ count % 2 ^ 32) (2 ^ 24 - 1))

bit_at-moved : (count r b : ℕ) → r * 2 ^ count < 2 ^ 32 → b < 24 → bit_at (moved_by count r) b ≡ bit_at (r * 2 ^ count + 0) b
bit_at-moved count r b small h =
    let small_bit : bit_at (r * 2 ^ count + 0) b < 2 = bit_at-lt (r * 2 ^ count + 0) b in
    let whole : r * 2 ^ count % 2 ^ 32 ≡ r * 2 ^ count + 0 = omega arith in
    bit_at_and (r * 2 ^ count % 2 ^ 32) (2 ^ 24 - 1) b
    ∙ ap (λ (n : ℕ). min (bit_at n b) (bit_at (2 ^ 24 - 1) b)) whole
    ∙ ap (λ (n : ℕ). min (bit_at (r * 2 ^ count + 0) b) n) (bit_at_ones 24 b h)
    ∙ min-one (bit_at (r * 2 ^ count + 0) b) small_bit

-- a bit of a register that was moved
pub bit_of-moved_by : (count r j : ℕ) → r * 2 ^ count < 2 ^ 32 → j < 24
    → bit_of (bits_of 24 (moved_by count r)) j ≡ bit_of (bits_of 24 r) (j + count)
bit_of-moved_by count r j small h =
    elim (cases_lt (j + count) 24) as (λ _. bit_of (bits_of 24 (moved_by count r)) j ≡ bit_of (bits_of 24 r) (j + count)) [
      | inl l ↦
          let above : count ≤ 24 - 1 - j = omega arith in
          let within : 24 - 1 - j < 24 = omega arith in
          let place : 24 - 1 - j - count ≡ 24 - 1 - (j + count) = omega arith in
          get_or-bits_of 24 (moved_by count r) j h
          ∙ ap (λ (n : ℕ). eqb n 1)
          (bit_at-moved count r (24 - 1 - j) small within
          ∙ bit_at_cat_high r count 0 (24 - 1 - j) (pow_pos count) above
          ∙ ap (bit_at r) place)
          ∙ sym (get_or-bits_of 24 r (j + count) l)
      | inr l ↦
          let low : 24 - 1 - j < count = omega arith in
          get_or-bits_of 24 (moved_by count r) j h
          ∙ ap (λ (n : ℕ). eqb n 1)
          (bit_at-moved count r (24 - 1 - j) small (omega arith)
          ∙ bit_at_cat_low r count 0 (24 - 1 - j) low
          ∙ bit_at-zero (24 - 1 - j))
          ∙ sym (get_or_past (bits_of 24 r) (j + count) false (omega (arith, length-bits_of 24 r)))
    ]

-- a register moved up by one
abbrev pub moved : ℕ → ℕ
moved = moved_by 1

-- a register that was moved by one has 24 bits
pub moved_lt : (r : ℕ) → moved r < 2 ^ 24
moved_lt r = moved_by_lt 1 r

bit_of-moved : (r j : ℕ) → r < 2 ^ 24 → j < 24 → bit_of (bits_of 24 (moved r)) j ≡ bit_of (bits_of 24 r) (j + 1)
bit_of-moved r j small h = bit_of-moved_by 1 r j (omega arith) h

-- the bit that leaves
bit_of_left : (r : ℕ) → r < 2 ^ 24 → bit_of (bits_of 24 r) 0 ≡ eqb (r / 2 ^ 23) 1
bit_of_left r small =
    let top : bit_at r 23 ≡ r / 2 ^ 23 = omega arith in
    get_or-bits_of 24 r 0 (omega arith) ∙ ap (λ (n : ℕ). eqb n 1) top

advanced_from : (r new : ℕ) (bit s : Bool) → r < 2 ^ 24 → plus (eqb (r / 2 ^ 23) 1) bit ≡ s
    → ((j : ℕ) → j < 24 → bit_of (bits_of 24 new) j ≡ plus (bit_of (bits_of 24 r) (j + 1)) (s && bit_of generator j))
    → bits_of 24 new ≡ advanced (bits_of 24 r) bit
unfolding advanced
advanced_from r new bit s small is each =
    let first : plus (bit_of (bits_of 24 r) 0) bit ≡ s = ap (λ (b : Bool). plus b bit) (bit_of_left r small) ∙ is in
    fill_by_all (λ j. plus (bit_of (bits_of 24 r) (j + 1)) (plus (bit_of (bits_of 24 r) 0) bit && bit_of generator j))
    (bits_of 24 new) 24 false (length-bits_of 24 new)
    (λ j h. each j h ∙ ap (λ (b : Bool). plus (bit_of (bits_of 24 r) (j + 1)) (b && bit_of generator j)) (sym first))

plus_not_beq : (a b : Bool) → plus a b ≡ not (beq a b)
plus_not_beq true true = refl
plus_not_beq true false = refl
plus_not_beq false true = refl
plus_not_beq false false = refl

-- the bit that leaves is the one that comes
pub advanced_same : (r : ℕ) (bit : Bool) → r < 2 ^ 24 → beq (eqb (r / 2 ^ 23) 1) bit ≡ true
    → bits_of 24 (moved r) ≡ advanced (bits_of 24 r) bit
advanced_same r bit small e =
    advanced_from r (moved r) bit false small (plus_not_beq (eqb (r / 2 ^ 23) 1) bit ∙ ap not e)
    (λ j h. bit_of-moved r j small h ∙ sym (plus-false (bit_of (bits_of 24 r) (j + 1))))

-- the generator in hexadecimal
generator_is : generator ≡ bits_of 24 0xb2b117
unfolding generator
generator_is = refl

-- they differ
pub advanced_other : (r : ℕ) (bit : Bool) → r < 2 ^ 24 → beq (eqb (r / 2 ^ 23) 1) bit ≡ false
    → bits_of 24 (bit_xor (moved r) 0xb2b117) ≡ advanced (bits_of 24 r) bit
advanced_other r bit small e =
    advanced_from r (bit_xor (moved r) 0xb2b117) bit true small (plus_not_beq (eqb (r / 2 ^ 23) 1) bit ∙ ap not e)
    (λ j h.
    bit_of_xor 24 (moved r) 0xb2b117 j h
    ∙ ap (λ (b : Bool). plus b (bit_of (bits_of 24 0xb2b117) j)) (bit_of-moved r j small h)
    ∙ ap (λ (g : List Bool). plus (bit_of (bits_of 24 r) (j + 1)) (bit_of g j)) (sym generator_is))

-- the identity in 24 bits
bit_of-mask : (rnti j : ℕ) → rnti < 2 ^ 16 → j < 24 → bit_of (mask rnti) j ≡ bit_of (bits_of 24 rnti) j
bit_of-mask rnti j small h =
    elim (cases_lt j 8) as (λ _. bit_of (mask rnti) j ≡ bit_of (bits_of 24 rnti) j) [
      | inl l ↦
          let within : j < length (replicate 8 false) = omega (arith, length-replicate 8 false) in
          get_or_append_left (replicate 8 false) (bits_of 16 rnti) false j within
          ∙ get_or-replicate 8 j false false l
          ∙ ap (λ (n : ℕ). eqb n 1) (sym (bit_at_above rnti 16 (24 - 1 - j) small (omega arith)))
          ∙ sym (get_or-bits_of 24 rnti j h)
      | inr l ↦
          let place : 16 - 1 - (j - 8) ≡ 24 - 1 - j = omega arith in
          get_or-append_right (replicate 8 false) (bits_of 16 rnti) 8 j false (length-replicate 8 false) l
          ∙ get_or-bits_of 16 rnti (j - 8) (omega arith)
          ∙ ap (λ (b : ℕ). eqb (bit_at rnti b) 1) place
          ∙ sym (get_or-bits_of 24 rnti j h)
    ]

-- the parity and the identity as numbers, added
pub masked_numbers : (payload : List Bool) (number rnti : ℕ) → bits_of 24 number ≡ parity payload → rnti < 2 ^ 16
    → payload ++ bits_of 24 (bit_xor number rnti) ≡ masked payload rnti
unfolding masked
masked_numbers payload number rnti e small =
    ap (λ (bits : List Bool). payload ++ bits)
    (fill_by_all (λ j. plus (bit_of (parity payload) j) (bit_of (mask rnti) j)) (bits_of 24 (bit_xor number rnti)) 24 false
    (length-bits_of 24 (bit_xor number rnti))
    (λ j h.
    bit_of_xor 24 number rnti j h
    ∙ ap (λ (bits : List Bool). plus (bit_of bits j) (bit_of (bits_of 24 rnti) j)) e
    ∙ ap (λ (b : Bool). plus (bit_of (parity payload) j) b) (sym (bit_of-mask rnti j small h))))

-- a block is its payload, then the number of the masked parity
pub attached : (payload block : List Bool) (number rnti other : ℕ) → block ≡ payload
    → bits_of 24 number ≡ parity payload → other ≡ rnti → rnti < 2 ^ 16
    → block ++ bits_of 24 (bit_xor number other) ≡ masked payload rnti
attached payload block number rnti other is e same small =
    ap (λ (bits : List Bool). bits ++ bits_of 24 (bit_xor number other)) is
    ∙ ap (λ (n : ℕ). payload ++ bits_of 24 (bit_xor number n)) same
    ∙ masked_numbers payload number rnti e small
