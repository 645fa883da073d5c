-- Whether a block can be coded at all: it has no more bits than are sent, and there is a position for each
-- (3GPP TS 38.212, 5.3.1.2 and 5.4.1.1).
use Rattle.std.specs.Prelude.{ℕ, ◌≤◌}
use Rattle.rate_match.specs.MotherCode.{length_of}
use Rattle.list_facts.specs.Counting.{count_below}
use Rattle.polar_sets.specs.FrozenPlaces.{is_free}

-- there are at least k bits to send, and at least k free positions
pub record Enough (k e : ℕ) : Type 0 where
  pub sent : k ≤ e
  pub free : k ≤ count_below (length_of k e) (is_free (length_of k e) k e)
