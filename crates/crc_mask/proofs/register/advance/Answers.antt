use Rattle.std.proofs.lemmas.Nat.{xor_lt}
use Rattle.crc_mask.proofs.Numbers.{moved, moved_lt, advanced_same, advanced_other}
use Rattle.crc_mask.proofs.register.advance.Goals as goal
use Rattle.std.proofs.Common.{arith}

pub returns-then-left-bit-clause-bits : goal.returns-then-left-bit-clause-bits
returns-then-left-bit-clause-bits c = let h = c.if-left-bit.true in advanced_same c.args.register c.args.bit c.requires h

pub returns-else-left-bit-clause-below : goal.returns-else-left-bit-clause-below
returns-else-left-bit-clause-below c = xor_lt 24 (moved c.args.register) 0xb2b117 (moved_lt c.args.register) (omega arith)

pub returns-else-left-bit-clause-bits : goal.returns-else-left-bit-clause-bits
returns-else-left-bit-clause-bits c = let h = c.if-left-bit.false in advanced_other c.args.register c.args.bit c.requires h
