use Rattle.std.proofs.Common.{◌≡◌, ℕ, ◌<◌, ◌+◌, ◌*◌}
use Rattle.bits_core.specs.Bits.{bit_of}
use Rattle.bits_core.proofs.row.BitRow.slice_eq.Given as goal

abbrev pub invariant-loop-at : goal.invariant-loop-at
invariant-loop-at g l =
    (k : ℕ) → k < l.at → (i : ℕ) → i < 64 → bit_of l.self (64 * k + i) ≡ bit_of l.other (64 * k + i)
