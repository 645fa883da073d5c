-- Which bits of the word are sent: all of them and again from the front (repetition), or without the first places
-- (puncturing), or without the last (shortening) (3GPP TS 38.212, 5.4.1.2).
use Rattle.std.specs.Prelude.{ℕ, ◌+◌, ◌-◌, ◌*◌, ◌%◌, ◌<◌, ◌≤◌, Bool, List, map, nat_le, if◌then◌else◌}
use Rattle.std.specs.List.{range_with_len}
use Rattle.rate_match.specs.SubblockOrder.{position_at}
use Rattle.rate_match.specs.declared.matching.Matching.{Matching}
use Rattle.rate_match.specs.declared.matching.Matching.TheVariants.{Repeated, Punctured, Shortened}

-- which of the three it is, where a block of k bits has a word of n bits and e are sent
unfoldable pub matching : ℕ → ℕ → ℕ → Matching
matching n k e = if nat_le n e then Repeated else (if nat_le (16 * k) (7 * e) then Punctured else Shortened)

-- the condition of each of the three
abbrev pub IsMatching : ℕ → ℕ → ℕ → Matching → Type 0
IsMatching n k e Repeated = n ≤ e
IsMatching n k e Punctured = (e < n) × (16 * k ≤ 7 * e)
IsMatching n k e Shortened = (e < n) × (7 * e < 16 * k)

-- the place in the order of sending of coded bit i, by the way of matching
abbrev pub place_by : Matching → ℕ → ℕ → ℕ → ℕ
place_by Repeated n e i = i % n
place_by Punctured n e i = i + (n - e)
place_by Shortened n e i = i

-- the same, where a block of k bits has a word of n bits and e are sent
unfoldable pub sent_place : ℕ → ℕ → ℕ → ℕ → ℕ
sent_place n k e i = place_by (matching n k e) n e i

-- the e coded bits of the word d
unfoldable pub selected : ℕ → ℕ → ℕ → (ℕ → Bool) → List Bool
selected n k e d = map (λ i. d (position_at n (sent_place n k e i))) (range_with_len 0 e)
