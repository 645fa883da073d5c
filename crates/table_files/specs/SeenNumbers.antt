-- Of the code, not of the format: a flag for each number that a table may have says whether a reading has found it.
use Rattle.std.specs.Prelude.{◌≡◌, ℕ, ◌<◌, ◌≤◌, ◌==◌, Bool, false, List, length, slice_index_or}
use Rattle.std.specs.List.{list_any}

-- there is a flag for each number below the size, and each flag is set exactly where its number is one of the list
pub record AreFlags (size : ℕ) (flags : List Bool) (numbers : List ℕ) : Type 0 where
  pub enough : size ≤ length flags
  pub each : (value : ℕ) → value < length flags
      → slice_index_or flags value false ≡ list_any (λ number. number == value) numbers
