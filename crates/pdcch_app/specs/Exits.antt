-- The exit status of the program.
use Rattle.std.specs.Prelude.{◌≡◌, ℕ, List, String}
use Rattle.std.specs.declared.alloc.Global.{Global}
use Rattle.outside.specs.Views.{ShelfView, SinkView}
use Rattle.run_steps.specs.declared.statuses.Status.{Status}
use Rattle.run_steps.specs.Codes.{code_of}
use Rattle.run_steps.specs.Ran.{Ran}
use Rattle.pdcch_app.specs.Outcomes.{outcome}
use Rattle.pdcch_app.specs.Words.{named}

-- the exit status is that of the status with which the run ended, beside what the run left
pub record Exits (words : List (String Global)) (shelf_old shelf_new : ShelfView) (exit : ℕ)
    (out_old out_new err_old err_new : SinkView) : Type 0 where
  pub status : Status
  pub exit_is : exit ≡ code_of status
  pub ran : Ran (outcome words) (named words) shelf_old shelf_new status out_old out_new err_old err_new
