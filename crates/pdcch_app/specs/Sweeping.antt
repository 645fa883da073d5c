-- What `sweep` prints: the summary of the first slots of the generated load.
use Rattle.std.specs.Prelude.{ℕ, Result, map}
use Rattle.std.specs.List.{range_with_len}
use Rattle.table_files.specs.declared.tables.Tables.{Tables}
use Rattle.par_sweep.specs.Summary.{summary_text}
use Rattle.par_sweep.specs.Sweep.{slot_totals}
use Rattle.run_steps.specs.Outcome.{Refusal, Printed}
use Rattle.pdcch_app.specs.Explaining.{printed}

-- what `sweep` prints of so many slots, with two tables
unfoldable pub swept : Tables → ℕ → Result Printed Refusal
swept tables slots = printed (summary_text (map (slot_totals tables) (range_with_len 0 slots)))
