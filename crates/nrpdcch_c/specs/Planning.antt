-- The plan of a handset in a slot, for a caller whose numbers may be out of range.
use Rattle.std.specs.Prelude.{ℕ, ◌&&◌, cond, nat_le, nat_lt, List, length, Option, Result, Ok, Err}
use Rattle.monitor_budget.specs.declared.allotment.CommonOver.{CommonOver}
use Rattle.monitor_plan.specs.declared.watch.Watch.{Watch}
use Rattle.monitor_plan.specs.Planned.{planned}
use Rattle.monitor_plan.specs.Watch.{watch_at}
use Rattle.rrc_settings.specs.declared.settings.RawCell.{RawCell}
use Rattle.slot_grid.specs.Grid.{slots_in_frame}
use Rattle.nrpdcch_c.specs.declared.handle.Opened.{Opened}
use Rattle.nrpdcch_c.specs.declared.stop.Stop.{Stop}
use Rattle.nrpdcch_c.specs.declared.stop.Stop.TheVariants as stops
use Rattle.nrpdcch_c.specs.Handles.{in_opened}
use Rattle.nrpdcch_c.specs.Stops.{and_then, fitting}

-- a plan, or that the common sets exceed the budget
abbrev pub plan_or_over : Result (List Watch) CommonOver → Result (List Watch) Stop
plan_or_over (Ok plan) = Ok plan
plan_or_over (Err over) = Err stops.Over

-- the plan of a handset of a cell in a slot, or the first cause against it: no such handset, no such slot, no plan
unfoldable pub plan_in : RawCell → ℕ → ℕ → ℕ → Result (List Watch) Stop
plan_in cell handset frame slot =
    cond (nat_lt handset (length cell.handsets))
    (cond (nat_le frame 1023 && nat_lt slot (slots_in_frame cell.mu))
    (plan_or_over (planned cell handset frame slot))
    (Err stops.Argument))
    (Err stops.NoHandset)

-- the watch of a number of a plan
abbrev pub watch_in : List Watch → ℕ → Result Watch Stop
watch_in plan number = cond (nat_lt number (length plan)) (Ok (watch_at plan number)) (Err stops.NoWatch)

-- the plan of a handset of the cell behind a handle, where a buffer has room for it
abbrev pub plan_wanted : Option Opened → ℕ → ℕ → ℕ → ℕ → Result (List Watch) Stop
plan_wanted opened handset frame slot room =
    in_opened opened (λ o. and_then (plan_in o.cell handset frame slot) (fitting room))
