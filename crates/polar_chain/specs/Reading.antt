-- Of the decoder, not of the standard: how the bits of a block are read from the input bits of a word (3GPP TS 38.212,
-- 5.3.1). No public clause speaks of it.
use Rattle.std.specs.Prelude.{◌≡◌, ℕ, ◌<◌, Bool, false, IsTrue, List, slice_index}
use Rattle.bits_core.specs.Bits.{bit_of}
use Rattle.list_facts.specs.Counting.{count_below}
use Rattle.rate_match.specs.SubblockOrder.{position_at}
use Rattle.polar_chain.specs.KnownPlaces.{IsKnown}

-- the input u is 0 at each known position that carries no bit of a block
pub record OthersAreZero (n k e : ℕ) (info u : ℕ → Bool) : Type 0 where
  pub each : (m : ℕ) → IsKnown n k e m → info (position_at n m) ≡ false → u (position_at n m) ≡ false

-- the bits of c stand at the information positions of the input u, in the input order
pub record IsRead (n : ℕ) (order : List ℕ) (info u : ℕ → Bool) (c : List Bool) : Type 0 where
  pub each : (p : ℕ) → p < n → IsTrue (info p) → bit_of c (slice_index order (count_below p info)) ≡ u p
