use Rattle.std.proofs.Common.{◌≡◌, take, drop}
use Rattle.rrc_settings.specs.Faults.{each, first_in}
use Rattle.rrc_settings.specs.Table.{set_ranges}
use Rattle.rrc_settings.proofs.ranges.sets_ranges.Given as goal

-- the first fault of the whole list is that of the elements which are left
abbrev pub invariant-loop-index : goal.invariant-loop-index
invariant-loop-index l =
    each set_ranges l.list.steps.items l.sets
    ≡ first_in (λ earlier. set_ranges) l.list.steps.items (take l.index l.sets) (drop l.index l.sets)
