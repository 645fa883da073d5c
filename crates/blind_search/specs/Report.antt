-- What a handset hears on a grid over a list of watches: a report.
use Rattle.std.specs.Prelude.{◌≡◌, ◌↔◌, ℕ, ◌<◌, List, Option, All, AllPairs, Any, length}
use Rattle.std.specs.List.{filter_map, range_with_len}
use Rattle.slot_grid.specs.Grid.{GridValue}
use Rattle.table_files.specs.declared.tables.Tables.{Tables}
use Rattle.monitor_plan.specs.declared.watch.Watch.{Watch}
use Rattle.monitor_plan.specs.Watch.{IsSound, watch_at}
use Rattle.dci_codec.specs.declared.heard.Heard.{Heard}
use Rattle.dci_codec.specs.Hearing.{AreTables, IsHeard, Spells}
use Rattle.dci_codec.specs.Spelling.{Spelling}
use Rattle.dci_codec.specs.TheSpelling.{heard_at}

-- what is heard at the watch of a number, where the grid spells something there
abbrev pub heard_in : Tables → GridValue → List Watch → ℕ → Option Heard
heard_in tables grid watches number = heard_at tables grid (watch_at watches number) number

-- what is heard at the watches, in their order; they are numbered from 0
unfoldable pub report_of : Tables → GridValue → List Watch → List Heard
report_of tables grid watches = filter_map (heard_in tables grid watches) (range_with_len 0 (length watches))

-- an entry is of one of the watches, and the grid spells its format there with values of which it has the shown ones
pub record IsEntry (tables : Tables) (grid : GridValue) (watches : List Watch) (entry : Heard) : Type 0 where
  pub within : entry.watch < length watches
  pub heard : IsHeard tables grid (watch_at watches entry.watch) entry.watch entry

-- entries are a report of watches on a grid: they rise by watch, each has what the grid spells at its watch, and each watch at
-- which the grid spells something has an entry
pub record IsReport (tables : Tables) (grid : GridValue) (watches : List Watch) (entries : List Heard) : Type 0 where
  pub rise : AllPairs (λ a b. a.watch < b.watch) entries
  pub spell : All (IsEntry tables grid watches) entries
  pub each : (number : ℕ) (spelling : Spelling) → number < length watches → Spells tables grid (watch_at watches number) spelling
      → Any (λ entry. entry.watch ≡ number) entries

-- what is heard at the watches in their order is a report, and no other list is one
abbrev pub OneReport : Type 0
OneReport =
    (tables : Tables) (grid : GridValue) (watches : List Watch) (entries : List Heard) → AreTables tables → All IsSound watches
    → IsReport tables grid watches entries ↔ (entries ≡ report_of tables grid watches)

-- each entry is of one of the watches
abbrev pub AreOfWatches : List Watch → List Heard → Type 0
AreOfWatches watches entries = All (λ entry. entry.watch < length watches) entries
