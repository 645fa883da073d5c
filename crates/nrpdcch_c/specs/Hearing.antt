-- What is heard in a cell, for a caller whose numbers and bytes may be out of range.
use Rattle.std.specs.Prelude.{◌≡◌, ℕ, List, Option, Result, Ok, Err}
use Rattle.dci_codec.specs.Answer.{answer_at}
use Rattle.dci_codec.specs.declared.heard.Heard.{Heard}
use Rattle.dci_codec.specs.declared.silence.Silence.{Silence}
use Rattle.nrpdcch_c.specs.declared.handle.Opened.{Opened}
use Rattle.nrpdcch_c.specs.declared.heard.NrpdcchHeard.{NrpdcchHeard}
use Rattle.nrpdcch_c.specs.declared.silence.NrpdcchSilence.{NrpdcchSilence}
use Rattle.nrpdcch_c.specs.declared.stop.Stop.{Stop}
use Rattle.nrpdcch_c.specs.declared.stop.Stop.TheVariants as stops
use Rattle.nrpdcch_c.specs.Handles.{in_opened}
use Rattle.nrpdcch_c.specs.HeardNumbers.{heard_of}
use Rattle.nrpdcch_c.specs.Planning.{plan_in, watch_in}
use Rattle.nrpdcch_c.specs.Points.{grid_in}
use Rattle.nrpdcch_c.specs.Silences.{silence_left}
use Rattle.nrpdcch_c.specs.Stops.{and_then, answer_number, value_left}

-- what is heard, or the stage of hearing that fails first
abbrev pub heard_or_silent : Result Heard Silence → Result Heard Stop
heard_or_silent (Ok heard) = Ok heard
heard_or_silent (Err silence) = Err (stops.Silent silence)

-- what a handset of an opened cell hears in a slot at the watch of a number, on the grid that bytes are, or the first cause
-- against it: of the plan, of the watch, of the bytes, and then of what stands there
unfoldable pub hear_in : Opened → ℕ → ℕ → ℕ → ℕ → List ℕ → Result Heard Stop
hear_in opened handset frame slot number bytes =
    and_then (plan_in opened.cell handset frame slot) (λ plan.
    and_then (watch_in plan number) (λ watch.
    and_then (grid_in opened.cell.mu frame slot opened.cell.blocks bytes) (λ grid.
    heard_or_silent (answer_at opened.tables grid watch number))))

-- the same for the cell behind a handle
abbrev pub hear_wanted : Option Opened → ℕ → ℕ → ℕ → ℕ → List ℕ → Result Heard Stop
hear_wanted opened handset frame slot number bytes = in_opened opened (λ o. hear_in o handset frame slot number bytes)

-- what hearing leaves, by its answer
pub record HearLeaves (number : ℕ) (heard heard-new : NrpdcchHeard) (silence silence-new : NrpdcchSilence)
    (answer : Result Heard Stop) : Type 0 where
  pub number_is : number ≡ answer_number answer
  pub heard_is : heard-new ≡ value_left heard_of answer heard
  pub silence_is : silence-new ≡ silence_left answer silence
