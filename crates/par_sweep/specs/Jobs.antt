-- What searches of several grids leave.
use Rattle.std.specs.Prelude.{ℕ, ◌<◌, List, All, length, slice_index_or}
use Rattle.slot_grid.specs.Grid.{GridValue}
use Rattle.slot_grid.specs.Image.{blank_grid}
use Rattle.table_files.specs.declared.tables.Tables.{Tables}
use Rattle.monitor_plan.specs.Watch.{IsInside}
use Rattle.blind_search.specs.Report.{report_of}
use Rattle.par_sweep.specs.declared.jobs.Job.{Job}

-- a grid of a list, by its place
abbrev pub grid_at : List GridValue → ℕ → GridValue
grid_at grids place = slice_index_or grids place (blank_grid 0 0 0 0)

-- the grid of a job is one of some grids, and has each REG of the watches of the job's plan
pub record CanSearch (grids : List GridValue) (job : Job) : Type 0 where
  pub place : job.grid < length grids
  pub inside : All (IsInside (grid_at grids job.grid).blocks) job.searcher.plan

-- a job after its search: it has found the report of its plan on its grid
abbrev pub job_searched : Tables → List GridValue → Job → Job
job_searched tables grids job = record {
  grid = job.grid;
  searcher = record {
    plan = job.searcher.plan;
    found = report_of tables (grid_at grids job.grid) job.searcher.plan;
  };
}
