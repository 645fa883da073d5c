-- What one step of a run leaves, and what its steps leave together.
use Rattle.std.specs.Prelude.{◌≡◌, ◌≤◌, ◌⊎◌, ℕ, List, [], ◌∷◌, ◌++◌, Some, None, Result, Ok, Err, length}
use Rattle.outside.specs.Causes.{Rose}
use Rattle.outside.specs.Missed.{Missed}
use Rattle.outside.specs.Views.{ShelfView}
use Rattle.run_steps.specs.declared.statuses.Status.{Status}
use Rattle.run_steps.specs.declared.statuses.Status.TheVariants as status
use Rattle.run_steps.specs.declared.stops.Stop.{Stop}
use Rattle.run_steps.specs.declared.stops.Stop.TheVariants.{OutOfMemory, Ended}
use Rattle.run_steps.specs.Outcome.{Outcome, Refusal, Fetched, Bytes, TooLong, Fault, given_of, limit, missed_file}
use Rattle.run_steps.specs.Outcome.{no_memory, read_as}

-- what a reading answered is what was wanted; want of memory is free
abbrev pub IsRead : {A : Type 0} → Result A Stop → Result A Outcome → Type 0
IsRead (Ok a) wanted = wanted ≡ Ok a
IsRead (Err (Ended o)) wanted = wanted ≡ Err o
IsRead (Err OutOfMemory) wanted = Unit {0}

-- a run ended with the outcome that was wanted; want of memory is free
abbrev pub Ends : Result Outcome Stop → Outcome → Type 0
Ends (Ok o) wanted = wanted ≡ o
Ends (Err (Ended o)) wanted = wanted ≡ o
Ends (Err OutOfMemory) wanted = Unit {0}

-- a stop is this refusal, or want of memory
abbrev pub IsStop : Outcome → Stop → Type 0
IsStop wanted (Ended o) = o ≡ wanted
IsStop wanted OutOfMemory = Unit {0}

-- what a stop answers
abbrev pub stopped_as : Stop → Outcome
stopped_as (Ended o) = o
stopped_as OutOfMemory = no_memory

-- what the steps of a run answer
abbrev pub answered : Result Outcome Stop → Outcome
answered (Ok o) = o
answered (Err stop) = stopped_as stop

-- memory ran out
abbrev pub IsShort : {A : Type 0} → Result A Stop → Type 0
IsShort (Ok a) = ⊥
IsShort (Err (Ended o)) = ⊥
IsShort (Err OutOfMemory) = Unit {0}

-- a reading ends with this status
abbrev pub ReadsWith : {A : Type 0} → Status → Result A Outcome → Type 0
ReadsWith status (Ok a) = ⊥
ReadsWith status (Err o) = o.status ≡ status

-- a later look at the same shelf: its counts did not fall, and it tells what it told
pub record IsLater (old new : ShelfView) : Type 0 where
  pub faults : old.faults ≤ new.faults
  pub longs : old.longs ≤ new.longs
  pub told : (name : List ℕ) → new.told name ≡ old.told name

-- an answer that speaks of no missed file
pub record SpeaksOfNone (answer : Outcome) : Type 0 where
  pub read : answer.status ≡ status.ReadFault → ⊥
  pub long : answer.status ≡ status.FileTooLong → ⊥

-- no file was missed, and the answer speaks of none
pub record MissesNone (old new : List Missed) (answer : Outcome) : Type 0 where
  pub noted : new ≡ old
  pub says : SpeaksOfNone answer

-- one file was missed, and the answer says that it was, with its name, unless memory ran out
pub record MissesOne (old new : List Missed) (answer : Outcome) : Type 0 where
  pub missed : Missed
  pub noted : new ≡ old ++ missed ∷ []
  pub says : (answer ≡ missed_file missed) ⊎ (answer ≡ no_memory)

-- the names that a shelf noted between two looks, and an answer that goes with them
abbrev pub Misses : List Missed → List Missed → Outcome → Type 0
Misses old new answer = MissesNone old new answer ⊎ MissesOne old new answer

-- the same of one step, which notes nothing where it goes well
abbrev pub StepMisses : {A : Type 0} → List Missed → List Missed → Result A Stop → Type 0
StepMisses old new (Ok a) = new ≡ old
StepMisses old new (Err stop) = Misses old new (stopped_as stop)

-- what one fetch gave, against what is told of its object and how the counts moved
pub record IsGiven (old new : ShelfView) (name : List ℕ) (gave : Fetched) : Type 0 where
  pub fits : (bytes : List ℕ) → gave ≡ Bytes bytes → length bytes ≤ limit
  pub agrees : (bytes : List ℕ) → old.told name ≡ Some bytes → (gave ≡ given_of bytes) ⊎ (gave ≡ Fault)
  pub faulted : gave ≡ Fault → Rose old.faults new.faults
  pub longed : old.told name ≡ None → gave ≡ TooLong → Rose old.longs new.longs

-- the same of each named file, in order
abbrev pub AreGiven : ShelfView → ShelfView → List (List ℕ) → List Fetched → Type 0
AreGiven old new [] [] = Unit {0}
AreGiven old new [] (g ∷ gs) = ⊥
AreGiven old new (n ∷ ns) [] = ⊥
AreGiven old new (n ∷ ns) (g ∷ gs) = IsGiven old new n g × AreGiven old new ns gs

-- one file was fetched and checked: what its fetch gave, and that the answer is its check of that
pub record Step {A : Type 0} (check : List ℕ → Result A Refusal) (name : List ℕ) (old new : ShelfView)
    (result : Result A Stop) : Type 0 where
  pub gave : Fetched
  pub given : IsGiven old new name gave
  pub is : IsRead result (read_as check name gave)
  pub missed : StepMisses old.missed new.missed result
  pub longed : gave ≡ TooLong → IsShort result ⊎ Rose old.longs new.longs
  pub quiet : ReadsWith status.ReadFault (read_as check name gave) ⊎ (new.faults ≡ old.faults)
  pub short : (gave ≡ TooLong) ⊎ (new.longs ≡ old.longs)
  pub later : IsLater old new

-- the steps of a command: what each fetch gave, and that the answer is the outcome over that
pub record Work (outcome : List Fetched → Outcome) (names : List (List ℕ)) (old new : ShelfView)
    (result : Result Outcome Stop) : Type 0 where
  pub gave : List Fetched
  pub given : AreGiven old new names gave
  pub is : Ends result (outcome gave)
  pub missed : Misses old.missed new.missed (answered result)
  pub read : (answered result).status ≡ status.ReadFault → Rose old.faults new.faults
  pub long : (answered result).status ≡ status.FileTooLong → Rose old.longs new.longs
  pub quiet : ((outcome gave).status ≡ status.ReadFault) ⊎ (new.faults ≡ old.faults)
  pub short : ((outcome gave).status ≡ status.FileTooLong) ⊎ (new.longs ≡ old.longs)
  pub later : IsLater old new

-- the first steps of a command, over these names: where they gave a value, the work from there on is work from their start; where
-- they stopped, so does the command, and no file behind them is fetched
pub record Begins {A : Type 0} (steps : (A → List Fetched → Outcome) → List Fetched → Outcome) (names : List (List ℕ))
    (old new : ShelfView) (result : Result A Stop) : Type 0 where
  pub goes_on : (a : A) → result ≡ Ok a → (next : A → List Fetched → Outcome) (later : List (List ℕ)) (last : ShelfView)
      (answer : Result Outcome Stop) → Work (next a) later new last answer → Work (steps next) (names ++ later) old last answer
  pub stops : (stop : Stop) → result ≡ Err stop → (next : A → List Fetched → Outcome) (later : List (List ℕ))
      → Work (steps next) (names ++ later) old new (Err stop)
