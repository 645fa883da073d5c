-- The control resource set that the settings of a cell describe (3GPP TS 38.331, `ControlResourceSet`; TS 38.211, 7.3.2.2).
use Rattle.std.specs.Prelude.{ℕ, option_map, unwrap_or}
use Rattle.rrc_settings.specs.ControlGroups.{groups_of}
use Rattle.rrc_settings.specs.HandsetsOfCell.{handset_at, coreset_at}
use Rattle.rrc_settings.specs.declared.settings.RawCell.{RawCell}
use Rattle.rrc_settings.specs.declared.settings.Coreset.{Coreset}
use Rattle.rrc_settings.specs.declared.settings.Interleave.{Interleave}
use Rattle.coreset_map.specs.declared.interleaver.Interleaver.{Interleaver}
use Rattle.coreset_map.specs.ControlResources.{Resources}

-- an interleaver, whose shift is the cell's number where the settings give none
abbrev pub interleaver_in : ℕ → Interleave → Interleaver
interleaver_in cell i = record { bundle = i.bundle; rows = i.rows; shift = unwrap_or i.shift cell }

-- the control resource set of a CORESET, in the cell of a number and a bandwidth part from block `start` on
abbrev pub resources_in : ℕ → ℕ → Coreset → Resources
resources_in cell start c = record {
  start = start;
  groups = groups_of c.groups;
  duration = c.duration;
  interleaver = option_map (interleaver_in cell) c.interleave;
}

-- the control resource set of a handset's CORESET, both by their places in the lists
abbrev pub resources_of : RawCell → ℕ → ℕ → Resources
resources_of cell handset coreset =
    let h = handset_at cell handset in resources_in cell.cell h.downlink.start (coreset_at h coreset)
