-- A sweep: each handset of the generated load searches the grid of each slot, and what it hears is counted.
use Rattle.std.specs.Prelude.{ℕ, ◌/◌, ◌%◌, ◌≤◌, [], length}
use Rattle.std.specs.List.{range_with_len, sum_by}
use Rattle.table_files.specs.declared.tables.Tables.{Tables}
use Rattle.blind_search.specs.Report.{report_of}
use Rattle.par_sweep.specs.declared.jobs.Job.{Job}
use Rattle.par_sweep.specs.declared.totals.SlotTotals.{SlotTotals}
use Rattle.par_sweep.specs.Slots.{slot_counts, slot_grid, slot_watches}

-- how many watches a handset hears something at, on the grid of slot t
unfoldable pub heard_count : Tables → ℕ → ℕ → ℕ
heard_count tables t h = length (report_of tables (slot_grid tables t) (slot_watches t h))

-- the totals of slot t
unfoldable pub slot_totals : Tables → ℕ → SlotTotals
slot_totals tables t = record {
  frame = t / 10;
  slot = t % 10;
  placed = (slot_counts t).placed;
  overlapped = (slot_counts t).overlapped;
  heard = sum_by (heard_count tables t) (range_with_len 0 32);
}

-- the job with a number before its search: the slots come first, and each has 32 handsets
abbrev pub job_at : ℕ → Job
job_at number = record {
  grid = number / 32;
  searcher = record { plan = slot_watches (number / 32) (number % 32); found = [] };
}

-- the same after its search
abbrev pub searched_at : Tables → ℕ → Job
searched_at tables number = record {
  grid = number / 32;
  searcher = record {
    plan = slot_watches (number / 32) (number % 32);
    found = report_of tables (slot_grid tables (number / 32)) (slot_watches (number / 32) (number % 32));
  };
}

-- how many entries a job has found
abbrev pub found_in : Job → ℕ
found_in job = length job.searcher.found

-- a job has found no more entries than a plan has watches
abbrev pub HasFew : Job → Type 0
HasFew job = found_in job ≤ 11200
