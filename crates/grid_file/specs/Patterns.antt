-- Of the code, not of the format: what follows the numbers, as a pattern. A dot stands for each character of a point, and each
-- other character for itself.
use Rattle.std.specs.Prelude.{◌≡◌, ℕ, ◌*◌, ◌<◌, ◌≤◌, ◌==◌, Bool, IsTrue, cond, is_some, List, [], ◌∷◌, ◌++◌, length}
use Rattle.std.specs.Prelude.{replicate, codes, slice_index}
use Rattle.std.specs.List.{range_with_len, flat_map}
use Rattle.grid_file.specs.Bytes.{point_of}

-- a byte may stand where the pattern has this character
abbrev pub fits : ℕ → ℕ → Bool
fits wanted byte = cond (wanted == 46) (is_some (point_of byte)) (byte == wanted)

-- the bytes fit the pattern
pub record Fits (pattern bytes : List ℕ) : Type 0 where
  pub size : length bytes ≡ length pattern
  pub each : (i : ℕ) → i < length pattern → IsTrue (fits (slice_index pattern i) (slice_index bytes i))

-- the bytes fit the pattern before a place
pub record FitsBefore (pattern bytes : List ℕ) (place : ℕ) : Type 0 where
  pub inside : place ≤ length pattern
  pub within : place ≤ length bytes
  pub each : (i : ℕ) → i < place → IsTrue (fits (slice_index pattern i) (slice_index bytes i))

-- the pattern of a symbol's line
unfoldable pub line_pattern : ℕ → List ℕ
line_pattern blocks = replicate (12 * blocks) 46 ++ 10 ∷ []

-- the pattern of what follows the numbers of a grid with this many blocks
unfoldable pub rest_pattern : ℕ → List ℕ
rest_pattern blocks = 10 ∷ [] ++ flat_map (λ _. line_pattern blocks) (range_with_len 0 14) ++ codes "end\n"
