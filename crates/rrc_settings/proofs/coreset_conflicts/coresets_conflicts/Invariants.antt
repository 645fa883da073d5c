use Rattle.std.proofs.Common.{◌≡◌, take, drop}
use Rattle.rrc_settings.specs.Faults.{each_after, first_in}
use Rattle.rrc_settings.specs.Conflicts.{coreset_conflicts}
use Rattle.rrc_settings.proofs.coreset_conflicts.coresets_conflicts.Given as goal

-- the first fault of the whole list is that of the elements which are left
abbrev pub invariant-loop-index : goal.invariant-loop-index
invariant-loop-index l =
    each_after (coreset_conflicts l.downlink) l.at.steps.items l.coresets
    ≡ first_in (coreset_conflicts l.downlink) l.at.steps.items (take l.index l.coresets) (drop l.index l.coresets)
