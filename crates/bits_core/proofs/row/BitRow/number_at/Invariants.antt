use Rattle.std.proofs.Common.{◌≡◌, take, drop}
use Rattle.bits_core.specs.Bits.{number_of}
use Rattle.bits_core.proofs.row.BitRow.number_at.Given as goal

abbrev pub invariant-loop-at : goal.invariant-loop-at
invariant-loop-at g l = l.number ≡ number_of (take l.at (drop l.place l.self))
