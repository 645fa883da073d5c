-- Resource indication values (3GPP TS 38.214, 5.1.2.2.2 and 6.1.2.2.2).
use Rattle.std.specs.Prelude.{ℕ, ◌+◌, ◌-◌, ◌*◌, ◌/◌, ◌&&◌, nat_lt, nat_le, cond, Option, Some, None}

-- the value of a start and a length: N (L - 1) + S where L - 1 is at most half of N, else N (N - L + 1) + (N - 1 - S)
abbrev pub span_value : ℕ → ℕ → ℕ → ℕ
span_value n start len =
    cond (nat_le (len - 1) (n / 2)) (n * (len - 1) + start) (n * (n - len + 1) + (n - 1 - start))

-- there is one where there is a block, and the last block is one of the n blocks
unfoldable pub riv : ℕ → ℕ → ℕ → Option ℕ
riv n start len = cond (nat_lt 0 len && nat_le (start + len) n) (Some (span_value n start len)) None
