-- A search space set with all that its search needs: its CORESET, the number of its cell and the identity of its handset.
use Rattle.std.specs.Prelude.{◌≤◌}
use Rattle.rrc_settings.specs.declared.settings.RawCell.{RawCell}
use Rattle.rrc_settings.specs.declared.settings.Handset.{Handset}
use Rattle.rrc_settings.specs.declared.settings.SearchSet.{SearchSet}
use Rattle.coreset_map.specs.ControlResources.{cce_count}
use Rattle.coreset_map.specs.ResourcesOfCell.{resources_in}
use Rattle.monitor_budget.specs.declared.space.Space.{Space}
use Rattle.rrc_settings.specs.HandsetsOfCell.{coreset_of}
use Rattle.monitor_budget.specs.SetCandidates.{AreAsked}

-- a set of a handset with all that its search needs
abbrev pub space_of : RawCell → Handset → SearchSet → Space
space_of cell h s = record {
  set = s;
  resources = resources_in cell.cell h.downlink.start (coreset_of h s);
  dmrs_id = (coreset_of h s).dmrs_id;
  cell = cell.cell;
  rnti = h.rnti;
}

-- what the settings of a legal cell say of a set and its CORESET
pub record IsSpace (space : Space) : Type 0 where
  pub coreset : space.set.coreset ≤ 11
  pub asked : AreAsked (cce_count space.resources) space.set.candidates
