use Rattle.std.proofs.Common.{ℕ, ◌-◌, ◌≡◌, ◌^◌, ◌<◌}
use Rattle.rate_match.proofs.length.least_power.Given as goal

abbrev pub decreases-loop-power : goal.decreases-loop-power
decreases-loop-power l = l.x - l.power

-- each lower power is below the number
abbrev pub invariant-loop-power : goal.invariant-loop-power
invariant-loop-power l = record {
  power : l.power ≡ 2 ^ l.exponent;
  least : (c : ℕ) → c < l.exponent → 2 ^ c < l.x;
}
