use Rattle.std.proofs.Common.{◌∙◌}
use Rattle.coreset_map.proofs.Cces.{placed-from}
use Rattle.coreset_map.proofs.map.Map.reg_at.Goals as goal

pub returns : goal.returns
returns c =
    c.reg.ensures ∙ placed-from c.args.self.now c.number_at.result c.args.place c.number_at.ensures.value
