use Rattle.std.proofs.Common.{◌≡◌, take, drop}
use Rattle.rrc_settings.specs.Faults.{each_after, first_in}
use Rattle.rrc_settings.specs.Conflicts.{handset_conflicts}
use Rattle.rrc_settings.proofs.conflicts.handsets_conflicts.Given as goal

-- the first fault of the whole list is that of the elements which are left
abbrev pub invariant-loop-index : goal.invariant-loop-index
invariant-loop-index l =
    each_after (handset_conflicts l.cell) l.at.steps.items l.handsets
    ≡ first_in (handset_conflicts l.cell) l.at.steps.items (take l.index l.handsets) (drop l.index l.handsets)
