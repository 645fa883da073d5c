-- The table of remainders, and the register that takes a byte in one turn.
use Rattle.std.proofs.Common.{◌≡◌, ℕ, zero, suc, ◌+◌, ◌-◌, ◌/◌, ◌%◌, ◌^◌, ◌<◌, Bool, true, false, ◌&&◌, eqb, cond}
use Rattle.std.proofs.Common.{List, [], ◌∷◌, length, get_or, bit_xor, refl, ap, sym, subst, ◌∙◌, arith}
use Rattle.std.specs.Int.{bit_at}
use Rattle.std.specs.Bool.{beq}
use Rattle.std.proofs.lemmas.List.{ext_get_or}
use Rattle.std.proofs.lemmas.Bool.{and_parts, eqb-true}
use Rattle.std.proofs.lemmas.Nat.{xor_lt, shr-shr}
use Rattle.bits_core.specs.Bits.{plus, bit_of, bits_of}
use Rattle.bits_core.proofs.Numbers.{length-bits_of, get_or-bits_of}
use Rattle.crc_mask.specs.Register.{advanced, fed, shifted_byte}
use Rattle.crc_mask.proofs.Bytes.{fed_is, length-fed, length-shifted_byte, shifted_byte-at}
use Rattle.crc_mask.proofs.Numbers.{moved, moved_lt, moved_by, bit_of-moved_by, bit_of_xor}
use Rattle.crc_mask.proofs.Numbers.{bit_of_zero, advanced_same, advanced_other}
use Rattle.crc_mask.proofs.Registers.{so_far}

-- the register as a number, once one more bit has gone in
unfoldable pub advanced_number : ℕ → Bool → ℕ
advanced_number r bit = cond (beq (eqb (r / 2 ^ 23) 1) bit) (moved r) (bit_xor (moved r) 0xb2b117)

-- a number is a register's, once one more bit has gone in
abbrev IsNext : ℕ → Bool → ℕ → Type 0
IsNext r bit new = (new < 2 ^ 24) × (bits_of 24 new ≡ advanced (bits_of 24 r) bit)

either : (P : ℕ → Type 0) (a b : ℕ) (c : Bool) → (c ≡ true → P a) → (c ≡ false → P b) → P (cond c a b)
either P a b true agree differ = agree refl
either P a b false agree differ = differ refl

advanced_number_is : (r : ℕ) (bit : Bool) → r < 2 ^ 24 → IsNext r bit (advanced_number r bit)
unfolding advanced_number
advanced_number_is r bit small =
    either (IsNext r bit) (moved r) (bit_xor (moved r) 0xb2b117) (beq (eqb (r / 2 ^ 23) 1) bit)
    (λ e. (moved_lt r, advanced_same r bit small e))
    (λ e. (xor_lt 24 (moved r) 0xb2b117 (moved_lt r) (omega arith), advanced_other r bit small e))

-- the register as a number, once the first bits of a row have gone in
unfoldable pub fed_number : ℕ → List Bool → ℕ → ℕ
fed_number r bits zero = r
fed_number r bits (suc count) = advanced_number (fed_number r bits count) (bit_of bits count)

fed_number_is : (r : ℕ) (bits : List Bool) (count : ℕ) → r < 2 ^ 24
    → (fed_number r bits count < 2 ^ 24) × (bits_of 24 (fed_number r bits count) ≡ fed (bits_of 24 r) bits count)
unfolding fed_number fed
fed_number_is r bits zero small = (small, refl)
fed_number_is r bits (suc count) small =
    let earlier = fed_number_is r bits count small in
    let later = advanced_number_is (fed_number r bits count) (bit_of bits count) earlier.0 in
    (later.0, later.1 ∙ ap (λ (x : List Bool). advanced x (bit_of bits count)) earlier.1)

-- what a byte leaves of an empty register
abbrev of_byte : ℕ → ℕ
of_byte byte = fed_number 0 (bits_of 8 byte) 8

-- the numbers of a table are those of the bytes from `from` on
unfoldable pub matches : List ℕ → ℕ → Bool
matches [] from = true
matches (x ∷ xs) from = eqb x (of_byte from) && matches xs (suc from)

matches-at : (xs : List ℕ) (from i : ℕ) → matches xs from ≡ true → i < length xs → get_or xs i 0 ≡ of_byte (from + i)
unfolding matches
matches-at [] from i e h = absurd (omega arith)
matches-at (x ∷ xs) from zero e h =
    let place : from ≡ from + 0 = omega arith in
    eqb-true x (of_byte from) (and_parts (eqb x (of_byte from)) (matches xs (suc from)) e).0 ∙ ap of_byte place
matches-at (x ∷ xs) from (suc i) e h =
    let place : suc from + i ≡ from + suc i = omega arith in
    matches-at xs (suc from) i (and_parts (eqb x (of_byte from)) (matches xs (suc from)) e).1 (omega arith) ∙ ap of_byte place

-- a byte that goes into an empty register leaves its remainder
of_byte_is : (byte : ℕ) → bits_of 24 (of_byte byte) ≡ shifted_byte byte
of_byte_is byte =
    ext_get_or false (bits_of 24 (of_byte byte)) (shifted_byte byte)
    (length-bits_of 24 (of_byte byte) ∙ sym (length-shifted_byte byte))
    (λ j l.
    let within : j < 24 = omega (arith, length-bits_of 24 (of_byte byte)) in
    let zero_bit : (k : ℕ) → bit_of (bits_of 24 0) k ≡ false = λ k. bit_of_zero 24 k in
    ap (λ (x : List Bool). bit_of x j) (fed_number_is 0 (bits_of 8 byte) 8 (omega arith)).1
    ∙ fed_is (bits_of 24 0) (bits_of 8 byte) (bits_of 8 byte) 8 (length-bits_of 24 0)
    (λ i _. sym (ap (λ (b : Bool). plus b (bit_of (bits_of 8 byte) i)) (zero_bit i))) j
    ∙ ap (λ (b : Bool). plus b (so_far (bits_of 8 byte) 8 j)) (zero_bit (j + 8))
    ∙ sym (shifted_byte-at byte j within))

-- an entry of a table that matches has 24 bits
pub entry_below : (table : List ℕ) (byte : ℕ) → matches table 0 ≡ true → byte < length table → get_or table byte 0 < 2 ^ 24
entry_below table byte e h =
    let place : 0 + byte ≡ byte = omega arith in
    subst (λ n. n < 2 ^ 24) (sym (matches-at table 0 byte e h ∙ ap of_byte place))
    (fed_number_is 0 (bits_of 8 byte) 8 (omega arith)).0

-- and it is the byte's remainder
pub entry_bits : (table : List ℕ) (byte : ℕ) → matches table 0 ≡ true → byte < length table
    → bits_of 24 (get_or table byte 0) ≡ shifted_byte byte
entry_bits table byte e h =
    let place : 0 + byte ≡ byte = omega arith in
    ap (bits_of 24) (matches-at table 0 byte e h ∙ ap of_byte place) ∙ of_byte_is byte

-- the eight bits that leave, each added to the one that comes
both-at : (r byte i : ℕ) → i < 8
    → bit_of (bits_of 8 (bit_xor (r / 2 ^ 16) byte)) i ≡ plus (bit_of (bits_of 24 r) i) (bit_of (bits_of 8 byte) i)
both-at r byte i h =
    let place : 16 + (8 - 1 - i) ≡ 24 - 1 - i = omega arith in
    bit_of_xor 8 (r / 2 ^ 16) byte i h
    ∙ ap (λ (b : Bool). plus b (bit_of (bits_of 8 byte) i))
    (get_or-bits_of 8 (r / 2 ^ 16) i h
    ∙ ap (λ (n : ℕ). eqb (n % 2) 1) (shr-shr r 16 (8 - 1 - i))
    ∙ ap (λ (b : ℕ). eqb (bit_at r b) 1) place
    ∙ sym (get_or-bits_of 24 r i (omega arith)))

-- the table's index is a byte
pub both_lt : (r byte : ℕ) → r < 2 ^ 24 → byte < 256 → bit_xor (r / 2 ^ 16) byte < 256
both_lt r byte small h = xor_lt 8 (r / 2 ^ 16) byte (omega arith) h

-- a turn by the table is eight turns
pub turned : (r byte entry : ℕ) → r < 2 ^ 24 → bits_of 24 entry ≡ shifted_byte (bit_xor (r / 2 ^ 16) byte)
    → bits_of 24 (bit_xor (moved_by 8 r) entry) ≡ fed (bits_of 24 r) (bits_of 8 byte) 8
turned r byte entry small e =
    let both : ℕ = bit_xor (r / 2 ^ 16) byte in
    let new : ℕ = bit_xor (moved_by 8 r) entry in
    ext_get_or false (bits_of 24 new) (fed (bits_of 24 r) (bits_of 8 byte) 8)
    (length-bits_of 24 new ∙ sym (length-fed (bits_of 24 r) (bits_of 8 byte) 8 (length-bits_of 24 r)))
    (λ j l.
    let within : j < 24 = omega (arith, length-bits_of 24 new) in
    bit_of_xor 24 (moved_by 8 r) entry j within
    ∙ ap (λ (b : Bool). plus b (bit_of (bits_of 24 entry) j)) (bit_of-moved_by 8 r j (omega arith) within)
    ∙ ap (λ (x : List Bool). plus (bit_of (bits_of 24 r) (j + 8)) (bit_of x j)) e
    ∙ ap (λ (b : Bool). plus (bit_of (bits_of 24 r) (j + 8)) b) (shifted_byte-at both j within)
    ∙ sym (fed_is (bits_of 24 r) (bits_of 8 byte) (bits_of 8 both) 8 (length-bits_of 24 r) (both-at r byte) j))
