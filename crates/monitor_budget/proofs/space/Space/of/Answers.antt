use Rattle.std.proofs.Common.{sym, ◌∙◌, subst}
use Rattle.coreset_map.specs.ControlResources.{Resources, AreResources}
use Rattle.monitor_budget.proofs.Spaces.{set-read, set_resources, set_asks}
use Rattle.monitor_budget.proofs.space.Space.of.Goals as goal

pub in_part-requires : goal.in_part-requires
in_part-requires c =
    let read = set-read c.args.cell.now c.raw.result.now c.args.handset.now c.args.set.now c.coreset_numbered-coreset.result
    c.raw.ensures.value c.coreset_numbered-coreset.ensures in
    subst (λ (r : Resources). AreResources r) (sym read)
    (set_resources c.args.cell.now c.args.handset.now c.args.set.now c.raw.ensures.facts c.requires.handset c.requires.set)

pub returns-clause-legal : goal.returns-clause-legal
returns-clause-legal c =
    let read = set-read c.args.cell.now c.raw.result.now c.args.handset.now c.args.set.now c.coreset_numbered-coreset.result
    c.raw.ensures.value c.coreset_numbered-coreset.ensures in
    record {
      coreset = c.requires.set.coreset_most;
      asked =
          set_asks c.args.cell.now c.args.handset.now c.args.set.now c.in_part.result c.requires.set (c.in_part.ensures ∙ read);
    }
