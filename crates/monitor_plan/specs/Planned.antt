-- The plan of a handset in a slot: the watches of the sets that it looks at.
use Rattle.std.specs.Prelude.{ℕ, List, Result, Ok, Err}
use Rattle.rrc_settings.specs.declared.settings.RawCell.{RawCell}
use Rattle.rrc_settings.specs.declared.settings.Handset.{Handset}
use Rattle.dci_fields.specs.declared.sizes.Sizes.{Sizes}
use Rattle.dci_fields.specs.Alignment.{sizes_of}
use Rattle.rrc_settings.specs.HandsetsOfCell.{handset_at}
use Rattle.monitor_budget.specs.declared.allotment.Allotment.{Allotment}
use Rattle.monitor_budget.specs.declared.allotment.CommonOver.{CommonOver}
use Rattle.monitor_budget.specs.Allotting.{allotted}
use Rattle.monitor_plan.specs.declared.watch.Watch.{Watch}
use Rattle.monitor_plan.specs.Watches.{watches_of}

-- that the common sets exceed a limit, by both counts
abbrev pub over_by : ℕ → ℕ → CommonOver
over_by candidates cces = record { candidates = candidates; cces = cces }

-- the watches of an allotment
abbrev pub watches_allotted : RawCell → Handset → Sizes → Result Allotment CommonOver → Result (List Watch) CommonOver
watches_allotted cell h sizes (Ok allotment) = Ok (watches_of cell h sizes allotment.sets.items)
watches_allotted cell h sizes (Err over) = Err over

-- the watches of the handset at a place of the cell's list in a slot, or that its common sets exceed a limit
unfoldable pub planned : RawCell → ℕ → ℕ → ℕ → Result (List Watch) CommonOver
planned cell handset frame slot =
    let h = handset_at cell handset in
    let sizes = sizes_of cell h in
    watches_allotted cell h sizes (allotted cell h sizes frame slot)
