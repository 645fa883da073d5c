use Rattle.std.proofs.Common.{ap, ◌∙◌, ◌+◌, refl, subst, get_or}
use Rattle.rrc_settings.specs.ControlGroups.{group_block}
use Rattle.coreset_map.specs.ControlResources.{Resources, AreResources}
use Rattle.coreset_map.proofs.Blocks.{block_from}
use Rattle.coreset_map.proofs.map.Map.block_at.Goals as goal

pub returns : goal.returns
returns c =
    let r = subst AreResources c.self.view_is c.self.invariant in
    let groups = c.deref.ensures.0 ∙ ap (λ (r : Resources). r.groups) c.self.view_is in
    let resources = c.args.self.now in
    let group = c.from-group.result in
    ap (λ block. block + c.from-2.result)
    (c.group_block.ensures ∙ ap (λ (r : Resources). group_block r.start group) c.self.view_is)
    ∙ (block_from resources c.args.rank group c.from-2.result resources.start r c.requires refl
    (c.from-group.ensures ∙ (ap (λ gs. get_or gs c.from.result 0) groups ∙ ap (λ k. get_or resources.groups k 0) c.from.ensures))
    c.from-2.ensures).is
