-- A frame has at most 80 slots.
use Rattle.std.proofs.Common.{ℕ, ◌<◌, ◌≤◌, arith}
use Rattle.std.proofs.Math.Nat.{pow-le-pow_right}
use Rattle.slot_grid.specs.Grid.{slots_in_frame}

-- a slot of a frame is below 80
pub slot_small : (mu slot : ℕ) → mu ≤ 3 → slot < slots_in_frame mu → slot < 80
slot_small mu slot h k = omega (arith, pow-le-pow_right {n = 2} (omega arith) {i = mu} {j = 3} h)
