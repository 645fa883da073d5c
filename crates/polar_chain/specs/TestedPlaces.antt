-- Of the decoder, not of the standard: which positions of a word are tested to be 0 (3GPP TS 38.212, 5.3.1 and 5.4.1.2). No
-- public clause speaks of them.
use Rattle.std.specs.Prelude.{◌≡◌, ℕ, ◌<◌, ◌↔◌, Bool, false, IsTrue}
use Rattle.rate_match.specs.SubblockOrder.{position_at}
use Rattle.polar_chain.specs.KnownPlaces.{IsKnown}

-- the flags are those of the known positions of a word of n bits that carry no bit of a block
pub record AreTested (n k e : ℕ) (info tested : ℕ → Bool) : Type 0 where
  pub each : (m : ℕ) → m < n → IsTrue (tested (position_at n m)) ↔ (IsKnown n k e m × (info (position_at n m) ≡ false))
