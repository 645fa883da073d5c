use Rattle.std.proofs.Common.{◌*◌, ap}
use Rattle.rrc_settings.proofs.Remainders.{differs_by_zero}
use Rattle.rrc_settings.proofs.coreset_conflicts.rows_differ.Goals as goal

pub returns-then-part-eq0 : goal.returns-then-part-eq0
returns-then-part-eq0 c = differs_by_zero _ _ _ (ap (λ n. 6 * n) c.cces-regs.ensures.value) c.if-part-eq0.true
