use Rattle.std.proofs.Common.{◌≡◌, ◌++◌}
use Rattle.std.specs.List.{range_with_len, filter}
use Rattle.monitor_budget.specs.Allotting.{is_searched}
use Rattle.monitor_budget.proofs.calendar.push_numbered.Given as goal

abbrev pub invariant-loop-place : goal.invariant-loop-place
invariant-loop-place l =
    l.places.items ≡ l.initial.places.items
    ++ filter (is_searched l.cell l.handset l.common l.frame l.slot l.number) (range_with_len 0 l.place)
