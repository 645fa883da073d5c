-- Of the code, not of the format: how its readers find a field of the head, a word and a number in decimal digits without leading
-- zeros.
use Rattle.std.specs.Prelude.{◌≡◌, ℕ, ◌+◌, ◌-◌, ◌*◌, ◌<◌, ◌≤◌, List, ◌++◌, length, take, drop, slice_index}
use Rattle.std.specs.Fmt.{decimal}
use Rattle.grid_file.specs.Bytes.{IsDigit}

-- the bytes don't go on with a digit
abbrev pub EndsNumber : List ℕ → Type 0
EndsNumber bytes = IsDigit (slice_index bytes 0) → ⊥

-- the numbers from `least` on and below `limit`, where digits that are too few yet, as a 1 is for a number from 6 on, begin a
-- number of the range, ten times theirs: so a reader of digits may go on from them
pub record IsRange (least limit : ℕ) : Type 0 where
  pub some : least < limit
  pub most : limit ≤ 1024
  pub short : least ≤ 10
  pub longer : 10 * least < limit + 10

-- a text and bytes are the same before a place and at it, where both may end
pub record AgreesPast (place : ℕ) (text bytes : List ℕ) : Type 0 where
  pub before : take place text ≡ take place bytes
  pub longer : place < length text → place < length bytes
  pub shorter : place < length bytes → place < length text
  pub there : slice_index text place ≡ slice_index bytes place

-- the bytes from `at` to `next` are the word
pub record IsWord (bytes : List ℕ) (at : ℕ) (word : List ℕ) (next : ℕ) : Type 0 where
  pub within : next ≤ length bytes
  pub far : next ≡ at + length word
  pub is : drop at bytes ≡ word ++ drop next bytes

-- the bytes from `at` on leave the word at `place`
pub record LeavesWord (word bytes : List ℕ) (at place : ℕ) : Type 0 where
  pub least : at ≤ place
  pub inside : place - at < length word
  pub within : place ≤ length bytes
  pub before : take (place - at) (drop at bytes) ≡ take (place - at) word
  pub there : place < length bytes → slice_index (drop at bytes) (place - at) ≡ slice_index word (place - at) → ⊥

-- the bytes from `at` to `next` are the word and the number, which is at least `least` and below `limit` and ends there
pub record IsField (word bytes : List ℕ) (at least limit value next : ℕ) : Type 0 where
  pub within : next ≤ length bytes
  pub far : next ≡ at + length (word ++ decimal value)
  pub is : drop at bytes ≡ word ++ decimal value ++ drop next bytes
  pub low : least ≤ value
  pub high : value < limit
  pub ends : EndsNumber (drop next bytes)

-- `place` is as far as the bytes go with a field whose number is at least `least` and below `limit`
pub record LeavesField (word : List ℕ) (least limit : ℕ) (bytes : List ℕ) (place : ℕ) : Type 0 where
  pub within : place ≤ length bytes
  pub begins : (value : ℕ) × (rest : List ℕ) × (least ≤ value) × (value < limit)
      × (word ++ decimal value ≡ take place bytes ++ rest)
  pub blocked : (value : ℕ) (rest : List ℕ) → least ≤ value → value < limit → EndsNumber rest
      → AgreesPast place (word ++ decimal value ++ rest) bytes → ⊥

-- the bytes from `at` on go no further with such a field than to `place`
pub record LeavesFieldAt (word : List ℕ) (least limit : ℕ) (bytes : List ℕ) (at place : ℕ) : Type 0 where
  pub least_place : at ≤ place
  pub leaves : LeavesField word least limit (drop at bytes) (place - at)
