-- What is heard in a cell at all watches of a handset, for a caller whose numbers and bytes may be out of range.
use Rattle.std.specs.Prelude.{◌≡◌, ℕ, List, Option, Result, Ok, Err}
use Rattle.blind_search.specs.Report.{report_of}
use Rattle.blind_search.specs.Searcher.{SearcherValue}
use Rattle.dci_codec.specs.declared.heard.Heard.{Heard}
use Rattle.nrpdcch_c.specs.declared.handle.Opened.{Opened}
use Rattle.nrpdcch_c.specs.declared.heard.NrpdcchHeard.{NrpdcchHeard}
use Rattle.nrpdcch_c.specs.declared.stop.Stop.{Stop}
use Rattle.nrpdcch_c.specs.Handles.{in_opened}
use Rattle.nrpdcch_c.specs.HeardNumbers.{heard_of}
use Rattle.nrpdcch_c.specs.Planning.{plan_in}
use Rattle.nrpdcch_c.specs.Points.{grid_in}
use Rattle.nrpdcch_c.specs.Stops.{and_then, answer_number, count_left, entries_left, fitting}

-- what a handset of an opened cell hears in a slot on the grid that bytes are, or the first cause against it: of the plan, and
-- then of the bytes
unfoldable pub search_in : Opened → ℕ → ℕ → ℕ → List ℕ → Result (List Heard) Stop
search_in opened handset frame slot bytes =
    and_then (plan_in opened.cell handset frame slot) (λ plan.
    and_then (grid_in opened.cell.mu frame slot opened.cell.blocks bytes) (λ grid.
    Ok (report_of opened.tables grid plan)))

-- the same for the cell behind a handle, where a buffer has room for it
abbrev pub search_wanted : Option Opened → ℕ → ℕ → ℕ → List ℕ → ℕ → Result (List Heard) Stop
search_wanted opened handset frame slot bytes room =
    in_opened opened (λ o. and_then (search_in o handset frame slot bytes) (fitting room))

-- what a searcher has found
abbrev pub found_by : Result SearcherValue Stop → Result (List Heard) Stop
found_by (Ok searcher) = Ok searcher.found
found_by (Err stop) = Err stop

-- what searching leaves, by its answer
pub record SearchLeaves (number : ℕ) (found found-new : List NrpdcchHeard) (count : ℕ) (answer : Result (List Heard) Stop) : Type
    0 where
  pub number_is : number ≡ answer_number answer
  pub found_is : found-new ≡ entries_left heard_of answer found
  pub count_is : count ≡ count_left answer
