-- What every run promises, as sentences over what a run leaves.
use Rattle.std.specs.Prelude.{◌≡◌, ◌<◌, ◌⊎◌, ℕ, false, List, [], ◌∷◌, ◌++◌}
use Rattle.outside.specs.Missed.{FailedName, LongName}
use Rattle.outside.specs.Taken.{Takes}
use Rattle.outside.specs.Views.{ShelfView, SinkView}
use Rattle.run_steps.specs.declared.statuses.Status.{Status}
use Rattle.run_steps.specs.declared.statuses.Status.TheVariants as ends
use Rattle.run_steps.specs.Lines.{read_line, too_long_line}
use Rattle.run_steps.specs.Outcome.{Outcome, Fetched, is_done}
use Rattle.run_steps.specs.Ran.{Ran}

-- where the shelf met a fault, the run ends as a fault of reading or of writing, or for want of memory
abbrev pub EndsAsReadFault : Type 0
EndsAsReadFault =
    (outcome : List Fetched → Outcome) (names : List (List ℕ)) (old new : ShelfView) (result : Status)
    (out_old out_new err_old err_new : SinkView)
    → Ran outcome names old new result out_old out_new err_old err_new → old.faults < new.faults
    → (result ≡ ends.ReadFault) ⊎ ((result ≡ ends.WriteFault) ⊎ (result ≡ ends.NoMemory))

-- where a sink met a fault, the run ends as a fault of writing
abbrev pub EndsAsWriteFault : Type 0
EndsAsWriteFault =
    (outcome : List Fetched → Outcome) (names : List (List ℕ)) (old new : ShelfView) (result : Status)
    (out_old out_new err_old err_new : SinkView)
    → Ran outcome names old new result out_old out_new err_old err_new
    → (out_old.faults < out_new.faults) ⊎ (err_old.faults < err_new.faults)
    → result ≡ ends.WriteFault

-- a run that refused its job and met no fault of a sink wrote nothing to the output
abbrev pub RefusesSilently : Type 0
RefusesSilently =
    (outcome : List Fetched → Outcome) (names : List (List ℕ)) (old new : ShelfView) (result : Status)
    (out_old out_new err_old err_new : SinkView)
    → Ran outcome names old new result out_old out_new err_old err_new → is_done result ≡ false → (result ≡ ends.WriteFault → ⊥)
    → out_new.taken ≡ out_old.taken

-- a name whose fetch failed in the run, and stands in the one line on the error output
pub record NamesFailed (old new : ShelfView) (err_old err_new : SinkView) : Type 0 where
  pub name : List ℕ
  pub noted : new.missed ≡ old.missed ++ FailedName name ∷ []
  pub line : Takes err_old.taken err_new.taken (read_line name ++ 10 ∷ [])

-- a name whose object was too long in the run, and stands in the one line on the error output
pub record NamesLong (old new : ShelfView) (err_old err_new : SinkView) : Type 0 where
  pub name : List ℕ
  pub noted : new.missed ≡ old.missed ++ LongName name ∷ []
  pub line : Takes err_old.taken err_new.taken (too_long_line name ++ 10 ∷ [])

-- a run that ended as a fault of reading names the one file that the shelf failed to fetch
abbrev pub NamesTheFailedFile : Type 0
NamesTheFailedFile =
    (outcome : List Fetched → Outcome) (names : List (List ℕ)) (old new : ShelfView) (result : Status)
    (out_old out_new err_old err_new : SinkView)
    → Ran outcome names old new result out_old out_new err_old err_new → result ≡ ends.ReadFault
    → NamesFailed old new err_old err_new

-- a run that ended for a file that is too long names the one that the shelf found so
abbrev pub NamesTheLongFile : Type 0
NamesTheLongFile =
    (outcome : List Fetched → Outcome) (names : List (List ℕ)) (old new : ShelfView) (result : Status)
    (out_old out_new err_old err_new : SinkView)
    → Ran outcome names old new result out_old out_new err_old err_new → result ≡ ends.FileTooLong
    → NamesLong old new err_old err_new
