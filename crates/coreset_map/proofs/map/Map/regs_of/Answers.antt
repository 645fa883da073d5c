use Rattle.coreset_map.proofs.Cces.{cce_from}
use Rattle.coreset_map.proofs.map.Map.regs_of.Goals as goal

pub returns : goal.returns
returns c =
    cce_from c.args.self.now c.args.cce c.reg_at.result c.reg_at-2.result c.reg_at-3.result c.reg_at-4.result
    c.reg_at-5.result c.reg_at-6.result
    c.cce_count-count.ensures.resources c.reg_at.ensures c.reg_at-2.ensures c.reg_at-3.ensures c.reg_at-4.ensures
    c.reg_at-5.ensures c.reg_at-6.ensures
