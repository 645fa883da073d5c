-- The pseudo-random sequence of 3GPP TS 38.211, 5.2.1. Two registers of 31 bits are shifted, and their low bits are added.
-- A register is a number: with x(n) in its low bit, it has x(n + k) in bit k, for k below 31.
use Rattle.std.specs.Prelude.{ℕ, zero, suc, ◌+◌, ◌*◌, ◌/◌, ◌%◌, ◌^◌, Bool, eqb, List, map}
use Rattle.std.specs.List.{range_with_len}
use Rattle.bits_core.specs.Bits.{plus}

-- the first register one step on: its top bit becomes x(n + 3) + x(n)
abbrev pub next1 : ℕ → ℕ
next1 x = x / 2 + (x / 8 + x) % 2 * 2 ^ 30

-- the second register one step on: its top bit becomes x(n + 3) + x(n + 2) + x(n + 1) + x(n)
abbrev pub next2 : ℕ → ℕ
next2 x = x / 2 + (x / 8 + x / 4 + x / 2 + x) % 2 * 2 ^ 30

-- the first register after n steps, from 1
unfoldable pub state1 : ℕ → ℕ
state1 zero = 1
state1 (suc n) = next1 (state1 n)

-- the second register after n steps, from the start value c
unfoldable pub state2 : ℕ → ℕ → ℕ
state2 c zero = c
state2 c (suc n) = next2 (state2 c n)

-- the first sequence: the low bit of the first register
unfoldable pub x1 : ℕ → Bool
x1 n = eqb (state1 n % 2) 1

-- the second sequence: the low bit of the second register
unfoldable pub x2 : ℕ → ℕ → Bool
x2 c n = eqb (state2 c n % 2) 1

-- bit n of the sequence with the start value c
unfoldable pub gold : ℕ → ℕ → Bool
gold c n = plus (x1 (n + 1600)) (x2 c (n + 1600))

-- `count` bits of the sequence with the start value c, from bit `place` on
abbrev pub gold_bits : ℕ → ℕ → ℕ → List Bool
gold_bits c place count = map (λ i. gold c (place + i)) (range_with_len 0 count)

-- a place in the sequence of a start value: `at` bits have been passed
pub record GoldValue : Type 0 where
  pub c_init : ℕ
  pub at : ℕ
