-- The remainder of a division by nothing.
use Rattle.std.proofs.Common.{◌≡◌, ℕ, ◌%◌, not, nat_eq}
use Rattle.std.proofs.Math.Nat.{mod-zero}

-- a division by 0 leaves all
pub differs_by_zero : (n m part : ℕ) → n ≡ m → part ≡ 0 → not (nat_eq n 0) ≡ not (nat_eq (m % part) 0)
differs_by_zero n m part e z = rw (e, z, mod-zero)
