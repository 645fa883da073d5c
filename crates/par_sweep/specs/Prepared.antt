-- Searches of which some could not be prepared for want of memory: what preparing gives, and what searching leaves.
use Rattle.std.specs.Prelude.{◌≡◌, ℕ, List, [], ⊤}
use Rattle.slot_grid.specs.Grid.{GridValue}
use Rattle.table_files.specs.declared.tables.Tables.{Tables}
use Rattle.monitor_plan.specs.declared.watch.Watch.{Watch}
use Rattle.par_sweep.specs.declared.prepared.Prepared.{Prepared}
use Rattle.par_sweep.specs.declared.prepared.Prepared.TheVariants.{Ready, NoMemory}
use Rattle.par_sweep.specs.Jobs.{job_searched, CanSearch}

-- an entry of a plan for a grid: a job of both that has found nothing yet, or want of memory for this grid
abbrev pub IsPrepared : ℕ → List Watch → Prepared → Type 0
IsPrepared grid plan (Ready job) = job ≡ record { grid = grid; searcher = record { plan = plan; found = [] } }
IsPrepared grid plan (NoMemory place) = place ≡ grid

-- the job of an entry can search its grid, where there is a job
abbrev pub CanSearchEntry : List GridValue → Prepared → Type 0
CanSearchEntry grids (Ready job) = CanSearch grids job
CanSearchEntry grids (NoMemory place) = ⊤

-- an entry after the search: its job is searched, and an entry without one is as before
abbrev pub prepared_searched : Tables → List GridValue → Prepared → Prepared
prepared_searched tables grids (Ready job) = Ready (job_searched tables grids job)
prepared_searched tables grids (NoMemory place) = NoMemory place
