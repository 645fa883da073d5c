-- The text of a table: numbers in decimal with separators between them, judged from the left.
use Rattle.std.specs.Prelude.{ℕ, ◌+◌, ◌-◌, ◌*◌, min, Bool, cond, ◌&&◌, ◌||◌, ◌==◌, nat_le, nat_lt}
use Rattle.std.specs.Prelude.{List, [], ◌∷◌, ◌++◌, length, Option, Some, None, Result, Ok, Err}
use Rattle.std.specs.List.{list_any}
use Rattle.table_files.specs.declared.fault.TableFault.{TableFault}
use Rattle.table_files.specs.declared.fault.TableFault.TheVariants.{BadByte, TooLarge, Repeated, Count}

-- digits that stand together: the place of the first, and their value, held at 65,535
pub record DigitRun : Type 0 where
  pub at : ℕ
  pub value : ℕ

-- what has been read: the numbers that have ended, and the digits that have not
pub record Reading : Type 0 where
  pub numbers : List ℕ
  pub run : Option DigitRun

-- the next step from a value, or the fault
abbrev pub and_then : {A B : Type 0} → Result A TableFault → (A → Result B TableFault) → Result B TableFault
and_then (Ok a) next = next a
and_then (Err fault) next = Err fault

-- a decimal digit
abbrev pub is_digit : ℕ → Bool
is_digit byte = nat_le 48 byte && nat_le byte 57

-- a space, a tab, a carriage return, a line feed or a comma
abbrev pub is_separator : ℕ → Bool
is_separator byte = byte == 32 || byte == 9 || byte == 13 || byte == 10 || byte == 44

-- a run with one more digit: it begins at its first digit, and its value is held at 65,535
abbrev pub longer : Option DigitRun → ℕ → ℕ → DigitRun
longer None at byte = record { at = at; value = byte - 48 }
longer (Some run) at byte = record { at = run.at; value = min 65535 (10 * run.value + (byte - 48)) }

-- the numbers with that of a run: it stays below the table's size, and it is none of those before
unfoldable pub judged : ℕ → List ℕ → DigitRun → Result (List ℕ) TableFault
judged size numbers run =
    cond (nat_le size run.value) (Err (TooLarge run.at run.value))
    (cond (list_any (λ number. number == run.value) numbers) (Err (Repeated run.value))
    (Ok (numbers ++ run.value ∷ [])))

-- the numbers once a run has ended, where one stood
abbrev pub ended : ℕ → List ℕ → Option DigitRun → Result (List ℕ) TableFault
ended size numbers None = Ok numbers
ended size numbers (Some run) = judged size numbers run

-- one more byte: a digit joins the run, and any other byte ends it; then it has to be a separator
unfoldable pub step : ℕ → ℕ → ℕ → Reading → Result Reading TableFault
step size at byte reading =
    cond (is_digit byte)
    (Ok (record { numbers = reading.numbers; run = Some (longer reading.run at byte) }))
    (and_then (ended size reading.numbers reading.run) (λ numbers.
    cond (is_separator byte) (Ok (record { numbers = numbers; run = None })) (Err (BadByte at))))

-- at the end of the text, as many numbers as the table has
abbrev pub complete : ℕ → List ℕ → Result (List ℕ) TableFault
complete size numbers = cond (nat_lt (length numbers) size) (Err (Count (length numbers))) (Ok numbers)

-- the rest of a text, whose first byte stands at a place
abbrev pub read_from : ℕ → ℕ → List ℕ → Reading → Result (List ℕ) TableFault
read_from size at [] reading = and_then (ended size reading.numbers reading.run) (complete size)
read_from size at (byte ∷ rest) reading = and_then (step size at byte reading) (read_from size (at + 1) rest)

-- the list of a table of a size that a text spells, or the first fault of the text
abbrev pub read_table : ℕ → List ℕ → Result (List ℕ) TableFault
read_table size bytes = read_from size 0 bytes (record { numbers = []; run = None })
