use Rattle.std.proofs.Common.{◌≡◌, sym, ◌∙◌, subst, get_or}
use Rattle.coreset_map.specs.ControlResources.{AreBelow, AreResources}
use Rattle.coreset_map.specs.ResourcesOfCell.{resources_in, resources_of}
use Rattle.rrc_settings.specs.HandsetsOfCell.{no_coreset}
use Rattle.coreset_map.proofs.LegalResources.{legal_resources, resources_read}
use Rattle.coreset_map.proofs.map.Map.of.Goals as goal

read : (c : goal.After-deref)
    → resources_in c.raw-raw.result.now.cell c.index-as_slice-handset.result.downlink.start
    (get_or c.deref.result.now c.args.coreset no_coreset)
    ≡ resources_of c.args.cell.now c.args.handset c.args.coreset
read c =
    resources_read c.raw-raw.result.now c.args.cell.now c.args.handset c.args.coreset c.index-as_slice-handset.result
    c.as_slice.result.now c.deref.result.now
    c.raw-raw.ensures.value c.as_slice.ensures c.index-as_slice-handset.is c.requires.handset c.deref.ensures.0

pub in_part-requires : goal.in_part-requires
in_part-requires c =
    subst AreResources (sym (read c))
    (legal_resources c.args.cell.now c.args.handset c.args.coreset c.raw-raw.ensures.facts c.requires.handset
    c.requires.coreset).resources

pub returns-clause-set : goal.returns-clause-set
returns-clause-set c = c.in_part.ensures ∙ read c.before

pub returns-clause-blocks : goal.returns-clause-blocks
returns-clause-blocks c =
    subst (λ set. AreBelow c.args.cell.now.blocks set) (sym (returns-clause-set c))
    (legal_resources c.args.cell.now c.args.handset c.args.coreset c.raw-raw.ensures.facts c.requires.handset
    c.requires.coreset).inside
