use Rattle.std.proofs.Common.{◌≡◌, ◌++◌, take}
use Rattle.bits_core.specs.Bits.{bits_of}
use Rattle.bits_core.proofs.row.BitRow.append_number.Given as goal

abbrev pub invariant-loop-at : goal.invariant-loop-at
invariant-loop-at g l = l.self ≡ l.initial.self ++ take l.at (bits_of l.width l.value)
