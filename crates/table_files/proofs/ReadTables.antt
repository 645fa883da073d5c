-- What is read is a table.
use Rattle.std.proofs.Common.{◌≡◌, ℕ, ◌+◌, ◌<◌, ◌≤◌, ◌==◌, Bool, true, false, cond, List, [], ◌∷◌, ◌++◌, length, nat_le, nat_lt}
use Rattle.std.proofs.Common.{Option, Some, None, Result, Ok, Err, refl, subst, arith, rules}
use Rattle.std.specs.List.{list_any}
use Rattle.table_files.specs.Permutation.{IsPart, IsTable}
use Rattle.table_files.specs.TableText.{DigitRun, Reading, and_then, complete, ended, is_digit, is_separator, judged, longer}
use Rattle.table_files.specs.TableText.{read_from, read_table, step}
use Rattle.table_files.specs.declared.fault.TableFault.{TableFault}
use Rattle.table_files.specs.declared.fault.TableFault.TheVariants.{BadByte}
use Rattle.table_files.proofs.Parts.{part_empty, part_length, part_more, table_from_part}

-- what an answer that is no fault says of its parts
pub and_then_ok : {A B : Type 0} → (found : Result A TableFault) (next : A → Result B TableFault) (b : B)
    → and_then found next ≡ Ok b
    → (a : A) × (found ≡ Ok a) × (next a ≡ Ok b)
and_then_ok (Ok a) next b is = (a, refl, is)
and_then_ok (Err fault) next b is = let none : ⊥ = cc in absurd none

-- an answer that is no fault
abbrev pub accepted : {A : Type 0} → A → Result A TableFault
accepted a = Ok a

-- two such answers that are the same
pub same_ok : {A : Type 0} → (a b : A) → accepted a ≡ accepted b → a ≡ b
same_ok a b is = cc

-- no fault: the test failed
pub unless_ok : {A : Type 0} → (test : Bool) (fault : TableFault) (rest : Result A TableFault) (a : A)
    → cond test (Err fault) rest ≡ Ok a
    → (test ≡ false) × (rest ≡ Ok a)
unless_ok true fault rest a is = let none : ⊥ = cc in absurd none
unless_ok false fault rest a is = (refl, is)

-- no fault: the test passed
pub where_ok : {A : Type 0} → (test : Bool) (fault : TableFault) (given a : A) → cond test (Ok given) (Err fault) ≡ Ok a
    → (test ≡ true) × (given ≡ a)
where_ok true fault given a is = (refl, same_ok given a is)
where_ok false fault given a is = let none : ⊥ = cc in absurd none

-- a number that was judged
pub record IsJudged (size : ℕ) (before : List ℕ) (value : ℕ) (numbers : List ℕ) : Type 0 where
  pub below : value < size
  pub new : list_any (λ x. x == value) before ≡ false
  pub grown : before ++ value ∷ [] ≡ numbers

-- a number that is taken was judged
pub judged_ok : (size : ℕ) (before : List ℕ) (run : DigitRun) (numbers : List ℕ) → judged size before run ≡ Ok numbers
    → IsJudged size before run.value numbers
unfolding judged
judged_ok size before run numbers is =
    let first = unless_ok (nat_le size run.value) _ _ numbers is in
    let small : nat_le size run.value ≡ false = first.0 in
    let second = unless_ok (list_any (λ x. x == run.value) before) _ _ numbers first.1 in
    let below : run.value < size = search rules in
    record { below = below; new = second.0; grown = same_ok _ numbers second.1 }

-- the numbers once a run has ended are a part
pub ended_part : (size : ℕ) (before : List ℕ) (run : Option DigitRun) (numbers : List ℕ) → IsPart size before
    → ended size before run ≡ Ok numbers
    → IsPart size numbers
ended_part size before None numbers part is = subst (IsPart size) (same_ok before numbers is) part
ended_part size before (Some run) numbers part is =
    let j = judged_ok size before run numbers is in
    subst (IsPart size) j.grown (part_more size before run.value part j.below j.new)

-- at the end of the text there were enough
pub complete_ok : (size : ℕ) (numbers result : List ℕ) → complete size numbers ≡ Ok result
    → (size ≤ length numbers) × (numbers ≡ result)
complete_ok size numbers result is =
    let first = unless_ok (nat_lt (length numbers) size) _ _ result is in
    let enough : nat_lt (length numbers) size ≡ false = first.0 in
    (search rules, same_ok numbers result first.1)

-- a byte that was taken: a digit, or a separator
pub step_by : (size at byte : ℕ) (reading next : Reading) (P : Reading → Type 0)
    → (is_digit byte ≡ true → P (record { numbers = reading.numbers; run = Some (longer reading.run at byte) }))
    → ((numbers : List ℕ) → ended size reading.numbers reading.run ≡ Ok numbers → is_separator byte ≡ true
    → P (record { numbers = numbers; run = None }))
    → step size at byte reading ≡ Ok next → P next
unfolding step
step_by size at byte reading next P digit separator is =
    elim (is_digit byte) as (λ b. is_digit byte ≡ b
    → cond b (Ok (record { numbers = reading.numbers; run = Some (longer reading.run at byte) }))
    (and_then (ended size reading.numbers reading.run) (λ numbers.
    cond (is_separator byte) (Ok (record { numbers = numbers; run = None })) (Err (BadByte at)))) ≡ Ok next → P next) [
      | true ↦ λ e h. subst P (same_ok _ next h) (digit e)
      | false ↦ λ e h.
          let (numbers, ends, rest) = and_then_ok _ _ next h in
          let (there, same) = where_ok (is_separator byte) _ _ next rest in
          subst P same (separator numbers ends there)
    ] refl is

read_part : (size at : ℕ) (bytes : List ℕ) (reading : Reading) (numbers : List ℕ) → IsPart size reading.numbers
    → read_from size at bytes reading ≡ Ok numbers → IsTable size numbers
read_part size at [] reading numbers part is =
    let (whole, ends, rest) = and_then_ok (ended size reading.numbers reading.run) (complete size) numbers is in
    let (enough, same) = complete_ok size whole numbers rest in
    let whole_part = ended_part size reading.numbers reading.run whole part ends in
    let most = part_length size whole whole_part in
    let long : length whole ≡ size = omega arith in
    subst (IsTable size) same (table_from_part size whole whole_part long)
read_part size at (byte ∷ bytes) reading numbers part is =
    let (next, stepped, rest) = and_then_ok (step size at byte reading) (read_from size (at + 1) bytes) numbers is in
    let next_part : IsPart size next.numbers = step_by size at byte reading next (λ r. IsPart size r.numbers) (λ e. part)
    (λ ended_numbers ends e. ended_part size reading.numbers reading.run ended_numbers part ends) stepped in
    read_part size (at + 1) bytes next numbers next_part rest

-- what is read of a text is a table
pub read_is_table : (size : ℕ) (bytes numbers : List ℕ) → read_table size bytes ≡ Ok numbers → IsTable size numbers
read_is_table size bytes numbers is = read_part size 0 bytes (record { numbers = []; run = None }) numbers (part_empty size) is
