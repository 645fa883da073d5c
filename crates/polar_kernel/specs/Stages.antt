-- Of the code, not of the standard: one stage of the transform, the bits in pairs whose places differ in one binary digit, and
-- what the first stages leave.
use Rattle.std.specs.Prelude.{◌≡◌, ℕ, ◌+◌, ◌*◌, ◌^◌, ◌<◌, Bool, ◌==◌, bit_and, if◌then◌else◌}
use Rattle.bits_core.specs.Bits.{plus}
use Rattle.polar_kernel.specs.MatrixWord.{word_at}

-- each place below n with a zero in the digit of `span` has a partner below n, with a one there
abbrev pub HasPartners : ℕ → ℕ → Type 0
HasPartners n span = (j : ℕ) → j < n → bit_and j span ≡ 0 → j + span < n

-- the bit at place j after the stage: the partner's is added where the digit is zero
abbrev pub staged : ℕ → (ℕ → Bool) → ℕ → Bool
staged span u j = if bit_and j span == 0 then plus (u j) (u (j + span)) else u j

-- after t stages each run of 2 ^ t bits is its word
abbrev pub AfterStages : ℕ → ℕ → (ℕ → Bool) → (ℕ → Bool) → Type 0
AfterStages n t u w = (q r : ℕ) → r < 2 ^ t → q * 2 ^ t + r < n → w (q * 2 ^ t + r) ≡ word_at (2 ^ t) (λ i. u (q * 2 ^ t + i)) r
