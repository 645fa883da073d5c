-- The tables of the polar code: the reliability sequence (3GPP TS 38.212, 5.3.1.2, table 5.3.1.2-1) and the interleaving
-- pattern of the input (3GPP TS 38.212, 5.3.1.1, table 5.3.1.1-1) each name every number below their size once.
use Rattle.std.specs.Prelude.{◌≡◌, ℕ, ◌<◌, List, All, eqb, length, true}
use Rattle.std.specs.List.{IsDistinct, list_any}

-- numbers below a size, no two of them equal
pub record IsPart (size : ℕ) (numbers : List ℕ) : Type 0 where
  pub inside : All (λ number. number < size) numbers
  pub distinct : IsDistinct eqb numbers

-- each number below the size stands once in the list
pub record IsTable (size : ℕ) (numbers : List ℕ) : Type 0 where
  pub long : length numbers ≡ size
  pub inside : All (λ number. number < size) numbers
  pub distinct : IsDistinct eqb numbers
  pub each : (number : ℕ) → number < size → list_any (eqb number) numbers ≡ true
