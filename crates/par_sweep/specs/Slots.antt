-- The slots of the generated load: in each its grants are placed, one after the other, on the desk of the slot.
use Rattle.std.specs.Prelude.{◌≡◌, ℕ, ◌+◌, ◌/◌, ◌%◌, ◌<◌, Bool, true, false, cond, List, [], Result, Ok, Err, is_ok}
use Rattle.std.specs.List.{count_by}
use Rattle.std.specs.Result.{result_unwrap_or}
use Rattle.monitor_plan.specs.declared.watch.Watch.{Watch}
use Rattle.monitor_plan.specs.Planned.{planned}
use Rattle.slot_grid.specs.Grid.{GridValue}
use Rattle.slot_grid.specs.Image.{blank_grid}
use Rattle.table_files.specs.declared.tables.Tables.{Tables}
use Rattle.cell_placer.specs.declared.refusal.Placed.{Placed}
use Rattle.cell_placer.specs.declared.refusal.Refusal.{Refusal}
use Rattle.cell_placer.specs.declared.refusal.Refusal.TheVariants.{UnknownHandset, UnknownSet, Unmonitored, Field, Overlap, Full}
use Rattle.cell_placer.specs.Opened.{opened}
use Rattle.cell_placer.specs.Placing.{DeskValue, fates, desk_after}
use Rattle.par_sweep.specs.declared.slots.Counts.{Counts}
use Rattle.par_sweep.specs.LoadCell.{load_cell}
use Rattle.par_sweep.specs.LoadGrants.{load_grants}

-- a grant was refused since accepted ones are in its way
abbrev pub is_overlap : Result Placed Refusal → Bool
is_overlap (Ok placed) = false
is_overlap (Err UnknownHandset) = false
is_overlap (Err UnknownSet) = false
is_overlap (Err Unmonitored) = false
is_overlap (Err (Field fault)) = false
is_overlap (Err (Overlap earlier)) = true
is_overlap (Err (Full room)) = false

-- how many grants were placed, and how many refused for an overlap, by the answers to them
abbrev pub counts_of : List (Result Placed Refusal) → Counts
counts_of answers = record { placed = count_by is_ok answers; overlapped = count_by is_overlap answers }

-- some counts with the answer to one grant more
abbrev pub counted : Counts → Result Placed Refusal → Counts
counted counts answer = record {
  placed = counts.placed + cond (is_ok answer) 1 0;
  overlapped = counts.overlapped + cond (is_overlap answer) 1 0;
}

-- the desk of nothing
abbrev pub no_desk : DeskValue
no_desk = record {
  ledger = record { blocks = 0; members = []; room = 0; calls = 0; accepted = [] };
  grid = blank_grid 0 0 0 0;
}

-- the desk of slot t, with room for its 64 grants; there is one in each slot
unfoldable pub slot_desk : ℕ → DeskValue
slot_desk t = result_unwrap_or (opened load_cell (t / 10) (t % 10) 64) no_desk

-- the watches of a handset in slot t; there are some in each slot
unfoldable pub slot_watches : ℕ → ℕ → List Watch
slot_watches t h = result_unwrap_or (planned load_cell h (t / 10) (t % 10)) []

-- in slot t there is a desk, and each handset has a plan
pub record IsPlanned (t : ℕ) : Type 0 where
  pub desk : opened load_cell (t / 10) (t % 10) 64 ≡ Ok (slot_desk t)
  pub watches : (h : ℕ) → h < 32 → planned load_cell h (t / 10) (t % 10) ≡ Ok (slot_watches t h)

-- so it is in each slot
abbrev pub PlansEverySlot : Type 0
PlansEverySlot = (t : ℕ) → IsPlanned t

-- what is counted of the grants of slot t
unfoldable pub slot_counts : ℕ → Counts
slot_counts t = counts_of (fates (slot_desk t).ledger (load_grants t).grants)

-- the grid that the grants of slot t leave
unfoldable pub slot_grid : Tables → ℕ → GridValue
slot_grid tables t = (desk_after tables (slot_desk t) (load_grants t).grants).grid
