-- Bounds of the width of the frequency assignment.
use Rattle.std.proofs.Common.{◌≡◌, ℕ, ◌+◌, ◌*◌, ◌/◌, ◌≤◌, arith}
use Rattle.std.proofs.Math.Nat.{mul-le-mul}

-- there are fewer than 2 ^ 16 starts and lengths among 275 blocks
pub spans_le : (n blocks : ℕ) → n ≡ blocks → blocks ≤ 275 → n * (n + 1) / 2 ≤ 65536
spans_le n blocks e h =
    let few : n ≤ 275 = omega arith in
    let more : n + 1 ≤ 276 = omega arith in
    omega (arith, mul-le-mul few more)
