-- Of the decoder, not of the standard: which places of the word are known to who receives e coded bits of it. With
-- puncturing the first places are neither sent nor known, with shortening those that are not sent are 0 (3GPP TS 38.212,
-- 5.4.1.2). No public clause speaks of them.
use Rattle.std.specs.Prelude.{ℕ, ◌-◌, ◌<◌, ◌≤◌}
use Rattle.rate_match.specs.RateMatching.{matching}
use Rattle.rate_match.specs.declared.matching.Matching.{Matching}
use Rattle.rate_match.specs.declared.matching.Matching.TheVariants.{Repeated, Punctured, Shortened}

-- the first place in the order of sending that is known
abbrev pub first_by : Matching → ℕ → ℕ → ℕ
first_by Repeated n e = 0
first_by Punctured n e = n - e
first_by Shortened n e = 0

-- the same, where a block of k bits has a word of n bits and e are sent
unfoldable pub first_known : ℕ → ℕ → ℕ → ℕ
first_known n k e = first_by (matching n k e) n e

-- the known places are that one and those that follow it
pub record IsKnown (n k e m : ℕ) : Type 0 where
  pub from : first_known n k e ≤ m
  pub below : m < n
