-- The word that received bits leave: each at its position, and false where nothing is received
-- (3GPP TS 38.212, 5.4.1.2).
use Rattle.std.specs.Prelude.{◌≡◌, ◌≢◌, ℕ, ◌<◌, Bool, false, List, length}
use Rattle.bits_core.specs.Bits.{bit_of}
use Rattle.rate_match.specs.SubblockOrder.{position_at}
use Rattle.rate_match.specs.RateMatching.{sent_place}

-- the word d of n bits that the received bits of a block of k bits leave
pub record IsUnselected (n k : ℕ) (bits d : List Bool) : Type 0 where
  pub length_is : length d ≡ n
  pub received : (i : ℕ) → i < length bits → bit_of d (position_at n (sent_place n k (length bits) i)) ≡ bit_of bits i
  pub empty :
      (position : ℕ) → ((i : ℕ) → i < length bits → position_at n (sent_place n k (length bits) i) ≢ position) →
      bit_of d position ≡ false
