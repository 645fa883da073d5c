-- What a run is to leave behind: a status and two texts, as a function of what each fetch gave.
use Rattle.std.specs.Prelude.{◌≡◌, ℕ, Bool, true, false, cond, leb, List, [], ◌∷◌, ◌++◌, Option, Some, None, Result, Ok}
use Rattle.std.specs.Prelude.{Err, length}
use Rattle.outside.specs.Missed.{Missed, FailedName, LongName}
use Rattle.run_steps.specs.declared.statuses.Status.{Status}
use Rattle.run_steps.specs.declared.statuses.Status.TheVariants as status
use Rattle.run_steps.specs.Lines.{read_line, too_long_line, memory_line}

-- a status, the text of the output and the text of the error output
pub record Outcome : Type 0 where
  pub status : Status
  pub out : List ℕ
  pub err : List ℕ

-- the job was done, so that its output stands
abbrev pub is_done : Status → Bool
is_done status.Done = true
is_done status.GrantsRefused = true
is_done _ = false

-- a status that the words and the files decide: neither want of memory nor a fault of a sink
abbrev pub is_cause : Status → Bool
is_cause status.NoMemory = false
is_cause status.WriteFault = false
is_cause _ = true

-- an outcome that the words and the files decide, with no output where the job was refused
pub record IsOutcome (o : Outcome) : Type 0 where
  pub cause : is_cause o.status ≡ true
  pub silent : is_done o.status ≡ false → o.out ≡ []

-- a refusal: one line on the error output, nothing on the output
abbrev pub refused : Status → List ℕ → Outcome
refused status text = record { status = status; out = []; err = text ++ 10 ∷ [] }

-- want of memory
abbrev pub no_memory : Outcome
no_memory = refused status.NoMemory memory_line

-- a file that could not be fetched, or was too long: its name stands in the line
abbrev pub missed_file : Missed → Outcome
missed_file (FailedName name) = refused status.ReadFault (read_line name)
missed_file (LongName name) = refused status.FileTooLong (too_long_line name)

-- the greatest number of bytes of a file
abbrev pub limit : ℕ
limit = 8388608

-- what a fetch gave: bytes, more bytes than the limit, or a fault
pub data Fetched : Type 0 where
  Bytes : List ℕ → Fetched
  TooLong : Fetched
  Fault : Fetched

-- what an object with these bytes gives where no fault comes
abbrev pub given_of : List ℕ → Fetched
given_of bytes = cond (leb (length bytes) limit) (Bytes bytes) TooLong

-- why a check or a job refuses
pub data Cause : Type 0 where
  BadSettings : Cause
  BadTable : Cause
  BadGrants : Cause
  BadGrid : Cause
  NotThere : Cause
  OverLimits : Cause

-- the status of a cause
abbrev pub status_of : Cause → Status
status_of BadSettings = status.SettingsRefused
status_of BadTable = status.TableRefused
status_of BadGrants = status.GrantsFileRefused
status_of BadGrid = status.GridRefused
status_of NotThere = status.NoSuch
status_of OverLimits = status.SlotRefused

-- a cause and its line, without the line feed
pub record Refusal : Type 0 where
  pub cause : Cause
  pub line : List ℕ

-- what a job prints; `whole` where it refused nothing
pub record Printed : Type 0 where
  pub whole : Bool
  pub out : List ℕ
  pub err : List ℕ

-- what a check found, or the outcome with its refusal
abbrev pub checked : {A : Type 0} → Result A Refusal → Result A Outcome
checked (Ok a) = Ok a
checked (Err r) = Err (refused (status_of r.cause) r.line)

-- the outcome of a job
abbrev pub ended : Result Printed Refusal → Outcome
ended (Ok p) = record { status = cond p.whole status.Done status.GrantsRefused; out = p.out; err = p.err }
ended (Err r) = refused (status_of r.cause) r.line

-- the bytes of a file as they are
abbrev pub raw : List ℕ → Result (List ℕ) Refusal
raw bytes = Ok bytes

-- a fetch that did not come, filled in by what is told of its object
abbrev pub unread : Option (List ℕ) → Fetched
unread (Some bytes) = given_of bytes
unread None = Bytes []

-- what a file is read as, by its check, where its fetch gave this
abbrev pub read_as : {A : Type 0} → (List ℕ → Result A Refusal) → List ℕ → Fetched → Result A Outcome
read_as check name (Bytes bytes) = checked (check bytes)
read_as check name TooLong = Err (missed_file (LongName name))
read_as check name Fault = Err (missed_file (FailedName name))

-- the next step, where this one ended nothing
abbrev pub and_then : {A : Type 0} → Result A Outcome → (A → Outcome) → Outcome
and_then (Ok a) next = next a
and_then (Err o) next = o

-- one file read and checked, then the next step with what its fetch did not use; there is one entry for each name
unfoldable pub reading : {A : Type 0} → (List ℕ → Result A Refusal) → List ℕ → (A → List Fetched → Outcome) → List Fetched
    → Outcome
reading check name next [] = no_memory
reading check name next (gave ∷ rest) = and_then (read_as check name gave) (λ a. next a rest)
