use Rattle.std.proofs.Common.{◌*◌, ◌/◌, ◌<◌, ap, sym, subst, length}
use Rattle.coreset_map.specs.ControlResources.{Resources}
use Rattle.coreset_map.proofs.Cces.{rank_is_below, reg-from}
use Rattle.coreset_map.proofs.map.Map.reg.Goals as goal

pub block_at-requires : goal.block_at-requires
block_at-requires c =
    let same = ap (λ (r : Resources). r.duration) c.self.view_is in
    subst (λ d. c.args.number / d < 6 * length c.args.self.now.groups) (sym same)
    (rank_is_below c.args.self.now c.args.number c.cce_count-count.ensures.resources c.requires)

pub returns : goal.returns
returns c =
    reg-from c.args.self.now c.args.number c.self.inside.duration c.block_at.result
    (ap (λ (r : Resources). r.duration) c.self.view_is) c.block_at.ensures
