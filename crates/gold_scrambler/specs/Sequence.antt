-- What 3GPP TS 38.211, 5.2.1 says of the sequence, in its own terms: two recurrences, their first 31 bits, and the sum.
-- The first four sentences fix x1 and x2 whole, and the fifth the sequence: whoever reads them needs no register.
use Rattle.std.specs.Prelude.{◌≡◌, ℕ, ◌+◌, ◌^◌, ◌<◌, true, false}
use Rattle.bits_core.specs.Bits.{plus}
use Rattle.bits_core.specs.Ones.{has_one}
use Rattle.gold_scrambler.specs.Gold.{x1, x2, gold}

-- x1(n + 31) = x1(n + 3) + x1(n)
abbrev pub FirstRecurs : Type 0
FirstRecurs = (n : ℕ) → x1 (n + 31) ≡ plus (x1 (n + 3)) (x1 n)

-- x2(n + 31) = x2(n + 3) + x2(n + 2) + x2(n + 1) + x2(n)
abbrev pub SecondRecurs : Type 0
SecondRecurs = (c n : ℕ) → c < 2 ^ 31
    → x2 c (n + 31) ≡ plus (plus (plus (x2 c (n + 3)) (x2 c (n + 2))) (x2 c (n + 1))) (x2 c n)

-- the first sequence begins with 1 and thirty zeros
abbrev pub FirstBegins : Type 0
FirstBegins = (x1 0 ≡ true) × ((n : ℕ) → 0 < n → n < 31 → x1 n ≡ false)

-- the second sequence begins with the 31 bits of the start value, low bit first
abbrev pub SecondBegins : Type 0
SecondBegins = (c n : ℕ) → n < 31 → x2 c n ≡ has_one c n

-- c(n) = x1(n + 1600) + x2(n + 1600)
abbrev pub GoldIsSum : Type 0
GoldIsSum = (c n : ℕ) → gold c n ≡ plus (x1 (n + 1600)) (x2 c (n + 1600))
