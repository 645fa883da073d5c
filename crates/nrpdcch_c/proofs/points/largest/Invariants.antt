use Rattle.std.proofs.Common.{◌≤◌, take}
use Rattle.std.specs.Prelude.{All}
use Rattle.nrpdcch_c.proofs.points.largest.Given as goal

-- no byte so far is larger
abbrev pub invariant-loop-byte : goal.invariant-loop-byte
invariant-loop-byte l = All (λ byte. byte ≤ l.largest) (take l.byte-index l.bytes)
