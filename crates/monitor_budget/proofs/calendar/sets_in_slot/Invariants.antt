use Rattle.std.proofs.Common.{◌≡◌, ◌-◌}
use Rattle.std.specs.List.{range_with_len, flat_map}
use Rattle.monitor_budget.specs.Allotting.{numbered_sets}
use Rattle.monitor_budget.proofs.calendar.sets_in_slot.Given as goal

abbrev pub invariant-loop-number : goal.invariant-loop-number
invariant-loop-number l =
    l.places.items ≡ flat_map (numbered_sets l.cell l.handset l.common l.frame l.slot) (range_with_len 1 (l.number - 1))
