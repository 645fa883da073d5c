use Rattle.std.proofs.Common.{◌≡◌, take, drop}
use Rattle.rrc_settings.specs.Faults.{each_after, first_in}
use Rattle.rrc_settings.specs.Conflicts.{set_conflicts}
use Rattle.rrc_settings.proofs.set_conflicts.sets_conflicts.Given as goal

-- the first fault of the whole list is that of the elements which are left
abbrev pub invariant-loop-index : goal.invariant-loop-index
invariant-loop-index l =
    each_after (set_conflicts l.handset) l.at.steps.items l.sets
    ≡ first_in (set_conflicts l.handset) l.at.steps.items (take l.index l.sets) (drop l.index l.sets)
