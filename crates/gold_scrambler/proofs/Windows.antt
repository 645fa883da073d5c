-- Windows of a register: its own 31 bits and the 28 after them.
use Rattle.std.proofs.Common.{◌≡◌, ℕ, ◌+◌, ◌*◌, ◌/◌, ◌%◌, ◌^◌, ◌<◌, ◌≤◌, eqb, sym, ◌∙◌, ap, subst, refl, arith, bit_or}
use Rattle.std.specs.Int.RustNames.{bit_xor}
use Rattle.std.proofs.lemmas.Nat.{xor_lt}
use Rattle.bits_core.specs.Bits.{plus}
use Rattle.bits_core.specs.Ones.{has_one}
use Rattle.bits_core.proofs.RowWords.{has_one-low}
use Rattle.bits_core.proofs.Sums.{has_one-xor}
use Rattle.gold_scrambler.specs.Gold.{state1, state2, x1, x2, gold}
use Rattle.gold_scrambler.specs.Standing.{AreStates, IsStanding}
use Rattle.gold_scrambler.specs.Stretches.{HasBits}
use Rattle.gold_scrambler.proofs.Recurrences.{top1, top2, shifted1, shifted2, small1, small2, first_recurs, second_recurs}
use Rattle.gold_scrambler.proofs.Registers.{bit_at_state}
use Rattle.gold_scrambler.proofs.Stretches.{one_shr, joined, same_number}

bits_of_first : (n register : ℕ) → register ≡ state1 n → HasBits x1 n 31 register
unfolding x1
bits_of_first n register e = record {
  bit = λ i h. ap (λ s. has_one s i) e ∙ ap (λ b. eqb b 1) (bit_at_state state1 top1 shifted1 n i h);
}

bits_of_second : (c n register : ℕ) → register ≡ state2 c n → HasBits (x2 c) n 31 register
unfolding x2
bits_of_second c n register e = record {
  bit = λ i h. ap (λ s. has_one s i) e ∙ ap (λ b. eqb b 1) (bit_at_state (state2 c) (top2 c) (shifted2 c) n i h);
}

-- the bits that come into the first register
first_incoming : (n register : ℕ) → HasBits x1 n 31 register → HasBits x1 (n + 31) 28 (bit_xor (register / 2 ^ 3) register)
first_incoming n register h = record {
  bit = λ i l.
      let third : n + (3 + i) ≡ n + i + 3 = omega arith in
      let next : n + i + 31 ≡ n + 31 + i = omega arith in
      has_one-xor (register / 2 ^ 3) register i
      ∙ ap (λ b. plus b (has_one register i)) (one_shr register 3 i ∙ h.bit (3 + i) (omega arith) ∙ ap x1 third)
      ∙ ap (λ b. plus (x1 (n + i + 3)) b) (h.bit i (omega arith))
      ∙ sym (first_recurs (n + i))
      ∙ ap x1 next;
}

-- the bits that come into the second register
second_incoming : (c n register : ℕ) → c < 2 ^ 31 → HasBits (x2 c) n 31 register
    → HasBits (x2 c) (n + 31) 28
    (bit_xor (bit_xor (bit_xor (register / 2 ^ 3) (register / 2 ^ 2)) (register / 2 ^ 1)) register)
second_incoming c n register small h = record {
  bit = λ i l.
      let tap : ℕ → ℕ = λ k. register / 2 ^ k in
      let shifted : (k : ℕ) → k ≤ 3 → has_one (tap k) i ≡ x2 c (n + i + k) =
      λ k m.
      let place : n + (k + i) ≡ n + i + k = omega arith in
      one_shr register k i ∙ h.bit (k + i) (omega arith) ∙ ap (x2 c) place
      in
      let next : n + i + 31 ≡ n + 31 + i = omega arith in
      has_one-xor (bit_xor (bit_xor (tap 3) (tap 2)) (tap 1)) register i
      ∙ ap (λ b. plus b (has_one register i)) (has_one-xor (bit_xor (tap 3) (tap 2)) (tap 1) i)
      ∙ ap (λ b. plus (plus b (has_one (tap 1) i)) (has_one register i)) (has_one-xor (tap 3) (tap 2) i)
      ∙ ap (λ b. plus (plus (plus b (has_one (tap 2) i)) (has_one (tap 1) i)) (has_one register i)) (shifted 3 (omega arith))
      ∙ ap (λ b. plus (plus (plus (x2 c (n + i + 3)) b) (has_one (tap 1) i)) (has_one register i)) (shifted 2 (omega arith))
      ∙ ap (λ b. plus (plus (plus (x2 c (n + i + 3)) (x2 c (n + i + 2))) b) (has_one register i)) (shifted 1 (omega arith))
      ∙ ap (λ b. plus (plus (plus (x2 c (n + i + 3)) (x2 c (n + i + 2))) (x2 c (n + i + 1))) b) (h.bit i (omega arith))
      ∙ sym (second_recurs c (n + i) small)
      ∙ ap (x2 c) next;
}

-- the window of the first register
pub window_of_first : (n register : ℕ) → register < 2 ^ 31 → register ≡ state1 n
    → HasBits x1 n 59 (bit_or register (bit_xor (register / 2 ^ 3) register * 2 ^ 31 % 2 ^ 64))
window_of_first n register small is =
    let own = bits_of_first n register is in
    joined x1 n 31 28 31 register (bit_xor (register / 2 ^ 3) register) (omega arith) (omega arith) small
    (xor_lt 31 (register / 2 ^ 3) register (omega arith) small)
    own (first_incoming n register own)

-- the window of the second register
pub window_of_second : (c n register : ℕ) → c < 2 ^ 31 → register < 2 ^ 31 → register ≡ state2 c n
    → HasBits (x2 c) n 59
    (bit_or register
    (bit_xor (bit_xor (bit_xor (register / 2 ^ 3) (register / 2 ^ 2)) (register / 2 ^ 1)) register * 2 ^ 31 % 2 ^ 64))
window_of_second c n register start small is =
    let own = bits_of_second c n register is in
    let high = bit_xor (register / 2 ^ 3) (register / 2 ^ 2) in
    let low = xor_lt 31 (register / 2 ^ 3) (register / 2 ^ 2) (omega arith) (omega arith) in
    let incoming = bit_xor (bit_xor high (register / 2 ^ 1)) register in
    joined (x2 c) n 31 28 31 register incoming (omega arith) (omega arith) small
    (xor_lt 31 (bit_xor high (register / 2 ^ 1)) register (xor_lt 31 high (register / 2 ^ 1) low (omega arith)) small)
    own (second_incoming c n register start own)

first_from_bits : (n register : ℕ) → register < 2 ^ 31 → HasBits x1 n 31 register → register ≡ state1 n
first_from_bits n register small h =
    same_number x1 n 31 register (state1 n) small (small1 n) h (bits_of_first n (state1 n) refl)

second_from_bits : (c n register : ℕ) → c < 2 ^ 31 → register < 2 ^ 31 → HasBits (x2 c) n 31 register → register ≡ state2 c n
second_from_bits c n register start small h =
    same_number (x2 c) n 31 register (state2 c n) small (small2 c n start) h (bits_of_second c n (state2 c n) refl)

-- the registers stand `count` bits on
pub standing_on : (c place count first second first' second' : ℕ) → IsStanding c place first second → place + count ≤ 2 ^ 30
    → first' < 2 ^ 31 → second' < 2 ^ 31
    → HasBits x1 (place + 1600 + count) 31 first' → HasBits (x2 c) (place + 1600 + count) 31 second'
    → IsStanding c (place + count) first' second'
standing_on c place count first second first' second' h within small small' bits bits' =
    let later : place + 1600 + count ≡ place + count + 1600 = omega arith in
    record {
      states = subst (λ m. AreStates c m first' second') later
          (record {
            first_is = first_from_bits (place + 1600 + count) first' small bits;
            second_is = second_from_bits c (place + 1600 + count) second' h.start small' bits';
            first_small = small;
            second_small = small';
          });
      start = h.start;
      within = within;
    }

-- the bits of the sequence are the sums of those of the two
pub sums : (c n first second count : ℕ) → count ≤ 59 → HasBits x1 (n + 1600) 59 first → HasBits (x2 c) (n + 1600) 59 second
    → HasBits (gold c) n count (bit_xor first second % 2 ^ count)
unfolding gold
sums c n first second count fits h k = record {
  bit = λ i l.
      let place : n + 1600 + i ≡ n + i + 1600 = omega arith in
      has_one-low (bit_xor first second) count i l
      ∙ has_one-xor first second i
      ∙ ap (λ b. plus b (has_one second i)) (h.bit i (omega arith))
      ∙ ap (λ b. plus (x1 (n + 1600 + i)) b) (k.bit i (omega arith))
      ∙ ap (λ m. plus (x1 m) (x2 c m)) place;
}
