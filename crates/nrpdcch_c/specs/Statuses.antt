-- What a call answers, as C sees it.
use Rattle.std.specs.Prelude.{◌≡◌, ℕ}
use Rattle.nrpdcch_c.specs.declared.status.Status.{Status}
use Rattle.nrpdcch_c.specs.declared.status.Status.TheVariants as status

-- the number of a status
abbrev pub number_of : Status → ℕ
number_of status.Done = 0
number_of status.Argument = 1
number_of status.NoMemory = 2
number_of status.Closed = 3
number_of status.Open = 4
number_of status.Settings = 5
number_of status.Table = 6
number_of status.Over = 7
number_of status.NoHandset = 8
number_of status.NoWatch = 9
number_of status.NoFormat = 10
number_of status.NotCarried = 11
number_of status.Field = 12
number_of status.Silent = 13
number_of status.GridLength = 14
number_of status.GridByte = 15
number_of status.Small = 16
number_of status.GridText = 17

-- each number is that of one status
abbrev pub NumbersNameOne : Type 0
NumbersNameOne = (a b : Status) → number_of a ≡ number_of b → a ≡ b
