-- Texts that spell numbers: each a run of decimal digits, with separators between them, which may also stand at either end.
use Rattle.std.specs.Prelude.{◌≡◌, ℕ, ◌+◌, ◌-◌, ◌*◌, ◌<◌, ◌≤◌, ◌↔◌, true, List, [], ◌∷◌, ◌++◌, map, length, Ok, ⊤}
use Rattle.std.specs.List.{AllByRecursion}
use Rattle.table_files.specs.Permutation.{IsTable}
use Rattle.table_files.specs.TableText.{is_digit, is_separator, read_table}

-- a number as it is written: separators, and then its digits
pub record Spelled : Type 0 where
  pub gap : List ℕ
  pub digits : List ℕ

-- what digits add to a value before them, most significant digit first
abbrev pub value_after : ℕ → List ℕ → ℕ
value_after value [] = value
value_after value (digit ∷ digits) = value_after (10 * value + (digit - 48)) digits

-- the text of numbers, with what stands behind the last
abbrev pub text_of : List Spelled → List ℕ → List ℕ
text_of [] last = last
text_of (number ∷ later) last = number.gap ++ (number.digits ++ text_of later last)

-- the numbers themselves
abbrev pub numbers_of : List Spelled → List ℕ
numbers_of spelled = map (λ number. value_after 0 number.digits) spelled

-- separators alone, or no byte
abbrev pub AreSeparators : List ℕ → Type 0
AreSeparators gap = AllByRecursion (λ byte. is_separator byte ≡ true) gap

-- digits alone
abbrev pub AreDigits : List ℕ → Type 0
AreDigits digits = AllByRecursion (λ byte. is_digit byte ≡ true) digits

-- at least one digit, behind separators
pub record IsSpelled (number : Spelled) : Type 0 where
  pub gap : AreSeparators number.gap
  pub some : 0 < length number.digits
  pub digits : AreDigits number.digits

-- numbers behind another one: at least one separator stands before each
abbrev pub AreLater : List Spelled → Type 0
AreLater [] = ⊤
AreLater (number ∷ later) = (0 < length number.gap) × IsSpelled number × AreLater later

-- numbers from the start of a text on
abbrev pub AreSpelled : List Spelled → Type 0
AreSpelled [] = ⊤
AreSpelled (number ∷ later) = IsSpelled number × AreLater later

-- a text spells these numbers
pub record Spells (bytes numbers : List ℕ) : Type 0 where
  pub spelled : List Spelled
  pub last : List ℕ
  pub text : bytes ≡ text_of spelled last
  pub words : AreSpelled spelled
  pub gap : AreSeparators last
  pub values : numbers ≡ numbers_of spelled

-- a text is read as a list exactly where it spells that list and the list is a table
abbrev pub ReadWhereSpelled : Type 0
ReadWhereSpelled = (size : ℕ) (bytes numbers : List ℕ) → size ≤ 65535
    → (read_table size bytes ≡ Ok numbers) ↔ (IsTable size numbers × Spells bytes numbers)
