use Rattle.std.proofs.Common.{◌-◌, vec_len}
use Rattle.outside.proofs.Reading.{IsReadSoFar}
use Rattle.outside.proofs.file_shelf.read_within.Given as goal

abbrev pub invariant-loop-count : goal.invariant-loop-count
invariant-loop-count g l =
    IsReadSoFar (g.F.Read.remaining l.initial.file) (g.F.Read.remaining l.file) l.into.items l.limit

-- each read before the end gives at least one byte
abbrev pub decreases-loop-count : goal.decreases-loop-count
decreases-loop-count g l = l.limit - vec_len l.into
