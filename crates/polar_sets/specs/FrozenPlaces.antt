-- The positions of the word that are frozen before the reliability table is asked (3GPP TS 38.212, 5.4.1.1).
use Rattle.std.specs.Prelude.{ℕ, ◌-◌, ◌*◌, Bool, false, not, ◌&&◌, ◌||◌, ◌==◌, nat_le, nat_lt, if◌then◌else◌}
use Rattle.std.specs.Int.{div_ceil}
use Rattle.std.specs.List.{list_any, range_with_len}
use Rattle.rate_match.specs.SubblockOrder.{position_at}
use Rattle.rate_match.specs.RateMatching.{matching}
use Rattle.rate_match.specs.declared.matching.Matching.{Matching}
use Rattle.rate_match.specs.declared.matching.Matching.TheVariants.{Repeated, Punctured, Shortened}

-- position p is sent at one of `count` places, from place `from` on
unfoldable pub stands_within : ℕ → ℕ → ℕ → ℕ → Bool
stands_within n from count p = list_any (λ m. position_at n m == p) (range_with_len from count)

-- with puncturing, the positions below this one are frozen too
abbrev pub frozen_front : ℕ → ℕ → ℕ
frozen_front n e = if nat_le (3 * n) (4 * e) then div_ceil (3 * n - 2 * e) 4 else div_ceil (9 * n - 4 * e) 16

-- position p is frozen first: none with repetition, those of the places left out, and with puncturing those of the front
abbrev pub frozen_by : Matching → ℕ → ℕ → ℕ → Bool
frozen_by Repeated n e p = false
frozen_by Punctured n e p = nat_lt p (frozen_front n e) || stands_within n 0 (n - e) p
frozen_by Shortened n e p = stands_within n e (n - e) p

-- the same, where a block of k bits has a word of n bits and e are sent
unfoldable pub is_frozen : ℕ → ℕ → ℕ → ℕ → Bool
is_frozen n k e p = frozen_by (matching n k e) n e p

-- position p of the word is free to carry a bit of the block
unfoldable pub is_free : ℕ → ℕ → ℕ → ℕ → Bool
is_free n k e p = nat_lt p n && not (is_frozen n k e p)
