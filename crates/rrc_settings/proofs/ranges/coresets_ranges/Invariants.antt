use Rattle.std.proofs.Common.{◌≡◌, take, drop}
use Rattle.rrc_settings.specs.Faults.{each, first_in}
use Rattle.rrc_settings.specs.Table.{coreset_ranges}
use Rattle.rrc_settings.proofs.ranges.coresets_ranges.Given as goal

-- the first fault of the whole list is that of the elements which are left
abbrev pub invariant-loop-index : goal.invariant-loop-index
invariant-loop-index l =
    each coreset_ranges l.list.steps.items l.coresets
    ≡ first_in (λ earlier. coreset_ranges) l.list.steps.items (take l.index l.coresets) (drop l.index l.coresets)
