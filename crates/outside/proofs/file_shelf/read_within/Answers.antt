use Rattle.std.proofs.Common.{ℕ, take, arith, length-take}
use Rattle.outside.proofs.Reading.{loses_more}
use Rattle.outside.proofs.file_shelf.read_within.Goals as goal

pub returns-then-count-limit-clause-asks : goal.returns-then-count-limit-clause-asks
returns-then-count-limit-clause-asks g c =
    loses_more _ _ _ c.loop-count.into.items
    (take c.in-Ok.count c.read.new.buf) c.args.limit c.loop-count.invariant c.in-Ok.ensures.bytes.0
    (omega (arith, length-take {A = ℕ}, c.in-Ok.ensures.bound))

pub returns-then-is_err-clause-asks : goal.returns-then-is_err-clause-asks
returns-then-is_err-clause-asks g c =
    loses_more _ _ _ c.loop-count.into.items
    (take c.in-Ok.count c.read.new.buf) c.args.limit c.loop-count.invariant c.in-Ok.ensures.bytes.0
    (omega (arith, length-take {A = ℕ}, c.in-Ok.ensures.bound))
