use Rattle.std.proofs.Common.{arith}
use Rattle.dmrs_qpsk.proofs.Appends.{appended_within, appended_across}
use Rattle.dmrs_qpsk.proofs.packing.append.Goals as goal

pub returns-then-room-ge18 : goal.returns-then-room-ge18
returns-then-room-ge18 c =
    appended_within c.args.words.now c.args.at c.args.packed (omega (arith, c.told-words, c.requires.room))
    (omega (arith, c.if-room-ge18.true)) c.requires.packed

pub returns-else-room-ge18 : goal.returns-else-room-ge18
returns-else-room-ge18 c =
    appended_across c.args.words.now c.args.at c.args.packed (omega (arith, c.told-words, c.requires.room))
    (omega (arith, c.if-room-ge18.false))
