-- The first fault of a table's text, by the text: what stands before it spells numbers of a table, and what stands there
-- doesn't go on so.
use Rattle.std.specs.Prelude.{◌≡◌, ℕ, ◌<◌, ◌≤◌, ◌↔◌, min, eqb, true, false, List, [], ◌∷◌, ◌++◌, length, Err, ⊤}
use Rattle.std.specs.List.{list_any}
use Rattle.table_files.specs.Permutation.{IsPart}
use Rattle.table_files.specs.SpelledTables.{AreDigits, Spelled, Spells, value_after}
use Rattle.table_files.specs.TableText.{is_digit, is_separator, read_table}
use Rattle.table_files.specs.declared.fault.TableFault.{TableFault}
use Rattle.table_files.specs.declared.fault.TableFault.TheVariants.{BadByte, TooLarge, Repeated, Count}

-- a text spells numbers below the size, no two of them equal
pub record SpellsPart (size : ℕ) (bytes numbers : List ℕ) : Type 0 where
  pub spells : Spells bytes numbers
  pub part : IsPart size numbers

-- one more number may begin behind these: there are none, or separators stand behind the last
abbrev pub MayFollow : List Spelled → List ℕ → Type 0
MayFollow [] last = ⊤
MayFollow (number ∷ later) last = 0 < length last

-- a text spells numbers of a table, and one more may begin behind it
pub record LeadsOn (size : ℕ) (bytes numbers : List ℕ) : Type 0 where
  pub numbers_are : SpellsPart size bytes numbers
  pub may_follow : MayFollow numbers_are.spells.spelled numbers_are.spells.last

-- a text begins with no digit
abbrev pub BeginsWithNoDigit : List ℕ → Type 0
BeginsWithNoDigit [] = ⊤
BeginsWithNoDigit (byte ∷ bytes) = is_digit byte ≡ false

-- behind those numbers of a table a longest run of digits begins at a place, with this value, held at 65,535
pub record IsNextNumber (size : ℕ) (bytes : List ℕ) (at value : ℕ) (numbers : List ℕ) : Type 0 where
  pub before : List ℕ
  pub digits : List ℕ
  pub after : List ℕ
  pub text : bytes ≡ before ++ (digits ++ after)
  pub place : length before ≡ at
  pub leads_on : LeadsOn size before numbers
  pub some : 0 < length digits
  pub all : AreDigits digits
  pub longest : BeginsWithNoDigit after
  pub held : value ≡ min 65535 (value_after 0 digits)

-- behind those numbers of a table a byte stands at a place that is neither a digit nor a separator
pub record IsBadByte (size : ℕ) (bytes : List ℕ) (at : ℕ) (numbers : List ℕ) : Type 0 where
  pub before : List ℕ
  pub byte : ℕ
  pub after : List ℕ
  pub text : bytes ≡ before ++ (byte ∷ after)
  pub place : length before ≡ at
  pub numbers_are : SpellsPart size before numbers
  pub no_digit : is_digit byte ≡ false
  pub no_separator : is_separator byte ≡ false

-- the fault is the first of the text, whose numbers before it are these: a bad byte, a number that is not below the size,
-- one that stood before, or an end with fewer numbers than the table has
abbrev pub IsFaultBehind : ℕ → List ℕ → TableFault → List ℕ → Type 0
IsFaultBehind size bytes (BadByte at) numbers = IsBadByte size bytes at numbers
IsFaultBehind size bytes (TooLarge at value) numbers = IsNextNumber size bytes at value numbers × (size ≤ value)
IsFaultBehind size bytes (Repeated value) numbers =
    (at : ℕ) × IsNextNumber size bytes at value numbers × (list_any (eqb value) numbers ≡ true)
IsFaultBehind size bytes (Count found) numbers =
    SpellsPart size bytes numbers × (length numbers ≡ found) × (found < size)

-- the fault is the first of the text
abbrev pub IsFirstFault : ℕ → List ℕ → TableFault → Type 0
IsFirstFault size bytes fault = (numbers : List ℕ) × IsFaultBehind size bytes fault numbers

-- a text is refused with a fault exactly where that is its first
abbrev pub FindsFirstFault : Type 0
FindsFirstFault = (size : ℕ) (bytes : List ℕ) (fault : TableFault) → size ≤ 65535
    → (read_table size bytes ≡ Err fault) ↔ IsFirstFault size bytes fault
