-- What a call answers: what was wanted, or why not.
use Rattle.std.specs.Prelude.{◌≡◌, ◌⊎◌, ℕ, cond, nat_le, List, length, map, Result, Ok, Err}
use Rattle.nrpdcch_c.specs.declared.status.Status.{Status}
use Rattle.nrpdcch_c.specs.declared.status.Status.TheVariants as status
use Rattle.nrpdcch_c.specs.declared.stop.Stop.{Stop}
use Rattle.nrpdcch_c.specs.declared.stop.Stop.TheVariants as stops
use Rattle.nrpdcch_c.specs.Overlaid.{overlaid}
use Rattle.nrpdcch_c.specs.Statuses.{number_of}

-- the status that says why a call doesn't do what it says
abbrev pub status_of : Stop → Status
status_of stops.Argument = status.Argument
status_of stops.NoMemory = status.NoMemory
status_of stops.Closed = status.Closed
status_of stops.Open = status.Open
status_of (stops.Settings _) = status.Settings
status_of (stops.Reliability _) = status.Table
status_of (stops.InputOrder _) = status.Table
status_of stops.Over = status.Over
status_of stops.NoHandset = status.NoHandset
status_of stops.NoWatch = status.NoWatch
status_of stops.NoFormat = status.NoFormat
status_of stops.NotCarried = status.NotCarried
status_of (stops.Field _) = status.Field
status_of (stops.Silent _) = status.Silent
status_of stops.GridLength = status.GridLength
status_of (stops.GridByte _) = status.GridByte
status_of (stops.Small _) = status.Small
status_of (stops.GridText _) = status.GridText

-- the number that a call answers
abbrev pub answer_number : {A : Type 0} → Result A Stop → ℕ
answer_number (Ok a) = number_of status.Done
answer_number (Err stop) = number_of (status_of stop)

-- a refusal, or what comes next
abbrev pub and_then : {A B : Type 0} → Result A Stop → (A → Result B Stop) → Result B Stop
and_then (Ok a) next = next a
and_then (Err stop) next = Err stop

-- what is answered is what is wanted; want of memory is free
abbrev pub Answers : {A : Type 0} → Result A Stop → Result A Stop → Type 0
Answers wanted answer = (answer ≡ wanted) ⊎ (answer ≡ Err stops.NoMemory)

-- a call leaves what goes with the wanted answer, or with want of memory
abbrev pub OrNoMemory : {A : Type 0} → (Result A Stop → Type 0) → Result A Stop → Type 0
OrNoMemory Leaves wanted = Leaves wanted ⊎ Leaves (Err stops.NoMemory)

-- what a call leaves where its result goes
abbrev pub value_left : {A B : Type 0} → (A → B) → Result A Stop → B → B
value_left f (Ok a) old = f a
value_left f (Err stop) old = old

-- the number that is told of a refusal: how many elements a buffer needs, or the place of a byte
abbrev pub number_told : Stop → ℕ
number_told (stops.GridByte at) = at
number_told (stops.Small needed) = needed
number_told (stops.GridText at) = at
number_told stops.Argument = 0
number_told stops.NoMemory = 0
number_told stops.Closed = 0
number_told stops.Open = 0
number_told (stops.Settings _) = 0
number_told (stops.Reliability _) = 0
number_told (stops.InputOrder _) = 0
number_told stops.Over = 0
number_told stops.NoHandset = 0
number_told stops.NoWatch = 0
number_told stops.NoFormat = 0
number_told stops.NotCarried = 0
number_told (stops.Field _) = 0
number_told (stops.Silent _) = 0
number_told stops.GridLength = 0

-- how many elements a call wrote, or the number that is told of a refusal
abbrev pub count_left : {A : Type 0} → Result (List A) Stop → ℕ
count_left (Ok entries) = length entries
count_left (Err stop) = number_told stop

-- the entries of a list that has room in a buffer of so many
abbrev pub fitting : {A : Type 0} → ℕ → List A → Result (List A) Stop
fitting room entries = cond (nat_le (length entries) room) (Ok entries) (Err (stops.Small (length entries)))

-- what a call leaves of a buffer: its entries first, and then what stood there
abbrev pub entries_left : {A B : Type 0} → (A → B) → Result (List A) Stop → List B → List B
entries_left f (Ok entries) old = overlaid (map f entries) old
entries_left f (Err stop) old = old
