use Rattle.rrc_settings.proofs.LegalCell.{legal_cell}
use Rattle.coreset_map.specs.ResourcesOfCell.{resources_of}
use Rattle.coreset_map.specs.ControlResources.{cce_regs}
use Rattle.list_facts.proofs.Members.{in_contains}
use Rattle.coreset_map.proofs.Cces.{one_cce}
use Rattle.coreset_map.proofs.LegalResources.{legal_resources}
use Rattle.coreset_map.proofs.laws.cces_are_apart.Goals as goal

pub returns : goal.returns
returns c cell handset coreset legal h l j k reg m n i o =
    let set = legal_resources cell handset coreset (legal_cell cell legal) h l in
    let resources = resources_of cell handset coreset in
    one_cce resources j k reg set.resources m n (in_contains reg (cce_regs resources j) i)
    (in_contains reg (cce_regs resources k) o)
