use Rattle.std.proofs.Common.{ℕ, ◌^◌, ◌<◌}
use Rattle.alloc_fields.proofs.bits.bits_for.Given as goal

-- fewer bits are not enough
abbrev pub invariant-loop-bits : goal.invariant-loop-bits
invariant-loop-bits l = (k : ℕ) → k < l.bits → 2 ^ k < l.n
