use Rattle.std.proofs.lemmas.Nat.{xor_lt}
use Rattle.crc_mask.proofs.Entries.{turned}
use Rattle.crc_mask.proofs.Numbers.{moved_by, moved_by_lt}
use Rattle.crc_mask.proofs.register.advance_byte.Goals as goal

pub returns-clause-below : goal.returns-clause-below
returns-clause-below c =
    xor_lt 24 (moved_by 8 c.args.register) c.entry.result (moved_by_lt 8 c.args.register) c.entry.ensures.below

pub returns-clause-bits : goal.returns-clause-bits
returns-clause-bits c = turned c.args.register c.args.byte c.entry.result c.requires.register c.entry.ensures.bits
