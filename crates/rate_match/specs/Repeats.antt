-- What is received more than once: where more bits are sent than a word has, the first are sent again
-- (3GPP TS 38.212, 5.4.1.2).
use Rattle.std.specs.Prelude.{◌≡◌, ◌≢◌, ℕ, ◌%◌, ◌<◌, ◌≤◌, Bool, List, length}
use Rattle.bits_core.specs.Bits.{bit_of}

-- each bit from n on and below m is as the bit of the first n that it repeats
abbrev pub RepeatsBelow : ℕ → List Bool → ℕ → Type 0
RepeatsBelow n bits m = (i : ℕ) → n ≤ i → i < m → bit_of bits i ≡ bit_of bits (i % n)

-- the bit at place `at` is the first repeat of one of the first n bits that differs from it
pub record IsFirstDiffering (n : ℕ) (bits : List Bool) (at : ℕ) : Type 0 where
  pub repeats : n ≤ at
  pub within : at < length bits
  pub differs : bit_of bits at ≢ bit_of bits (at % n)
  pub before : RepeatsBelow n bits at
