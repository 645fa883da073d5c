use Rattle.std.proofs.Common.{sym}
use Rattle.nrpdcch_c.proofs.FirstBytes.{none_is_no_point}
use Rattle.nrpdcch_c.proofs.points.no_point_at.Goals as goal

pub returns-then-largest-le4 : goal.returns-then-largest-le4
returns-then-largest-le4 c =
    sym (none_is_no_point c.args.bytes.now c.largest.result c.largest.ensures c.if-largest-le4.true)
