-- What a fetch leaves behind, and from what cause each of its answers comes.
use Rattle.std.specs.Prelude.{◌≡◌, ◌⊎◌, ◌<◌, ◌≤◌, ◌-◌, ◌^◌, ◌+◌, ℕ, min, List, [], ◌∷◌, ◌++◌, length, Some, Result, OnOk, OnErr}
use Rattle.std.specs.Result.{IsErrOf}
use Rattle.outside.specs.declared.faults.FetchFault.{FetchFault}
use Rattle.outside.specs.declared.faults.FetchFault.TheVariants.{Failed, TooLong}
use Rattle.outside.specs.Missed.{FailedName, LongName}
use Rattle.outside.specs.Views.{ShelfView}

-- where a count of 64 bits stands still
abbrev pub last_count : ℕ
last_count = 2 ^ 64 - 1

-- a count rose in a call: it ended greater than it began, or stands at the last one
abbrev pub Rose : ℕ → ℕ → Type 0
Rose old new = (old < new) ⊎ (new ≡ last_count)

-- the next count; the last one stays
abbrev pub next_count : ℕ → ℕ
next_count count = min (count + 1) last_count

-- a fetch of the object with this name from a shelf: `given` is what it left in the buffer
pub record Fetches (old new : ShelfView) (name : List ℕ) (limit : ℕ) (given : List ℕ)
    (result : Result (Unit {0}) FetchFault) : Type 0 where
  -- the counts never fall
  pub faults_later : old.faults ≤ new.faults
  pub longs_later : old.longs ≤ new.longs
  -- `Failed` comes only where the count of faults rose, and every other answer leaves that count
  pub failed : IsErrOf result Failed → Rose old.faults new.faults
  pub kept : (IsErrOf result Failed → ⊥) → new.faults ≡ old.faults
  -- `TooLong` comes only where its count rose, and every other answer leaves that count
  pub too_long : IsErrOf result TooLong → Rose old.longs new.longs
  pub longs_kept : (IsErrOf result TooLong → ⊥) → new.longs ≡ old.longs
  -- both note the name that was asked for, and every other answer leaves the names
  pub failed_name : IsErrOf result Failed → new.missed ≡ old.missed ++ FailedName name ∷ []
  pub long_name : IsErrOf result TooLong → new.missed ≡ old.missed ++ LongName name ∷ []
  pub names_kept : (IsErrOf result Failed → ⊥) → (IsErrOf result TooLong → ⊥) → new.missed ≡ old.missed
  -- on `Ok` the buffer has at most `limit` bytes, the told ones where they are told
  pub fits : OnOk result (length given ≤ limit)
  pub bytes : (object : List ℕ) → old.told name ≡ Some object → OnOk result (given ≡ object)
  -- where they are told, `TooLong` comes only where there are more than `limit`, and `Ok` only where there aren't
  pub too_long_told : (object : List ℕ) → old.told name ≡ Some object → IsErrOf result TooLong → limit < length object
  pub ok_told : (object : List ℕ) → old.told name ≡ Some object → OnOk result (length object ≤ limit)
  -- after each refusal the buffer is empty
  pub emptied : OnErr result (given ≡ [])
  -- what is told stays
  pub told : (n : List ℕ) → new.told n ≡ old.told n
