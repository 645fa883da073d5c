-- The sequence is that of 3GPP TS 38.211, 5.2.1.
use Rattle.std.proofs.Common.{ℕ, zero, suc, ◌+◌, ◌/◌, ◌%◌, ◌^◌, ◌<◌, eqb, sym, ◌∙◌, ap, refl, arith, zero-add}
use Rattle.std.proofs.lemmas.Nat.Bits.{bit_at_above}
use Rattle.bits_core.specs.Bits.{plus}
use Rattle.gold_scrambler.specs.Gold.{state1, state2, x1, x2, gold}
use Rattle.gold_scrambler.specs.Sequence.{FirstRecurs, SecondRecurs, FirstBegins, SecondBegins, GoldIsSum}
use Rattle.gold_scrambler.proofs.Parities.{odd_add}
use Rattle.gold_scrambler.proofs.Registers.{IsShifted, bit_at_state, low_after, shifted_small}

-- what comes in at the top of the first register after n steps
abbrev pub top1 : ℕ → ℕ
top1 n = state1 n / 8 + state1 n

-- what comes in at the top of the second register after n steps
abbrev pub top2 : ℕ → ℕ → ℕ
top2 c n = state2 c n / 8 + state2 c n / 4 + state2 c n / 2 + state2 c n

-- the first register stays below 2 ^ 31
pub small1 : (n : ℕ) → state1 n < 2 ^ 31
unfolding state1
small1 zero = omega arith
small1 (suc n) = shifted_small (state1 n) (top1 n) (small1 n)

-- the second register stays below 2 ^ 31
pub small2 : (c n : ℕ) → c < 2 ^ 31 → state2 c n < 2 ^ 31
unfolding state2
small2 c zero h = h
small2 c (suc n) h = shifted_small (state2 c n) (top2 c n) (small2 c n h)

-- the first register is shifted once a step
pub shifted1 : IsShifted state1 top1
unfolding state1
shifted1 = record { shifts = λ n. refl }

-- the second register is shifted once a step
pub shifted2 : (c : ℕ) → IsShifted (state2 c) (top2 c)
unfolding state2
shifted2 c = record { shifts = λ n. refl }

-- the recurrence of the first sequence
pub first_recurs : FirstRecurs
unfolding x1
first_recurs n =
    let x = state1 n in
    ap (λ b. eqb b 1) (low_after state1 top1 shifted1 n (small1 n))
    ∙ odd_add (x / 8) x
    ∙ ap (λ b. plus (eqb b 1) (eqb (x % 2) 1)) (bit_at_state state1 top1 shifted1 n 3 (omega arith))

-- the recurrence of the second
pub second_recurs : SecondRecurs
unfolding x2
second_recurs c n h =
    let x = state2 c n in
    let at = bit_at_state (state2 c) (top2 c) (shifted2 c) n in
    ap (λ b. eqb b 1) (low_after (state2 c) (top2 c) (shifted2 c) n (small2 c n h))
    ∙ odd_add (x / 8 + x / 4 + x / 2) x
    ∙ ap (λ p. plus p (eqb (x % 2) 1))
    (odd_add (x / 8 + x / 4) (x / 2) ∙ ap (λ p. plus p (eqb (x / 2 % 2) 1)) (odd_add (x / 8) (x / 4)))
    ∙ ap (λ b. plus (plus (plus (eqb b 1) (eqb (x / 4 % 2) 1)) (eqb (x / 2 % 2) 1)) (eqb (x % 2) 1)) (at 3 (omega arith))
    ∙ ap (λ b. plus (plus (plus (x2 c (n + 3)) (eqb b 1)) (eqb (x / 2 % 2) 1)) (eqb (x % 2) 1)) (at 2 (omega arith))
    ∙ ap (λ b. plus (plus (plus (x2 c (n + 3)) (x2 c (n + 2))) (eqb b 1)) (eqb (x % 2) 1)) (at 1 (omega arith))

-- the second sequence begins with the start value
pub second_begins : SecondBegins
unfolding x2 state2
second_begins c n h =
    ap (λ m. eqb (state2 c m % 2) 1) (sym (zero-add n))
    ∙ ap (λ b. eqb b 1) (sym (bit_at_state (state2 c) (top2 c) (shifted2 c) 0 n h))

-- the first begins with a one
pub first_begins : FirstBegins
unfolding x1 state1
first_begins = (
  refl,
  λ n k h.
      ap (λ m. eqb (state1 m % 2) 1) (sym (zero-add n))
      ∙ ap (λ b. eqb b 1) (sym (bit_at_state state1 top1 shifted1 0 n h) ∙ bit_at_above 1 1 n (omega arith) (omega arith)),
)

-- the sequence is the sum of the two
pub gold_is_sum : GoldIsSum
unfolding gold
gold_is_sum c n = refl
