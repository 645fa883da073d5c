-- What the inverse of a code asks of its information positions, whatever the table is that they come from
-- (3GPP TS 38.212, 5.3.1.2).
use Rattle.std.specs.Prelude.{◌≡◌, ℕ, ◌<◌, Bool, IsTrue}
use Rattle.rate_match.specs.SubblockOrder.{position_at}
use Rattle.rate_match.specs.RateMatching.{sent_place}
use Rattle.list_facts.specs.Counting.{count_below}

-- k positions of a word of n bits, where a block of k bits is sent in e; that each of them is sent follows from their choice,
-- and is what decoding needs
pub record IsInformation (n k e : ℕ) (info : ℕ → Bool) : Type 0 where
  pub count_is : count_below n info ≡ k
  pub below : (position : ℕ) → IsTrue (info position) → position < n
  pub is_sent : (position : ℕ) → IsTrue (info position) → (i : ℕ) × (i < e) × (position_at n (sent_place n k e i) ≡ position)
