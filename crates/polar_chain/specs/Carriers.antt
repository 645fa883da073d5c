-- Of the code, not of the standard: which position of a word carries each bit of a block (3GPP TS 38.212, 5.3.1). No public
-- clause speaks of it.
use Rattle.std.specs.Prelude.{◌≡◌, ℕ, ◌<◌, Bool, IsTrue, List, slice_index}
use Rattle.list_facts.specs.Counting.{count_below}

-- each information position stands in the list at the place of the bit that enters at its turn
pub record AreCarriers (n : ℕ) (order : List ℕ) (info : ℕ → Bool) (carriers : List ℕ) : Type 0 where
  pub each : (p : ℕ) → p < n → IsTrue (info p) → slice_index carriers (slice_index order (count_below p info)) ≡ p
