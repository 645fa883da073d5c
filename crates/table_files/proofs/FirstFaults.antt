-- A text is refused with a fault where that is its first.
use Rattle.std.proofs.Common.{◌≡◌, ℕ, ◌+◌, ◌<◌, ◌≤◌, true, false, eqb, nat_lt}
use Rattle.std.proofs.Common.{List, [], ◌∷◌, ◌++◌, length, Some, Ok, Err, refl, sym, ◌∙◌, ap, subst}
use Rattle.std.specs.List.{list_any}
use Rattle.std.proofs.lemmas.Bool.{le-leb, lt-ltb}
use Rattle.table_files.specs.FirstTableFault.{BeginsWithNoDigit, FindsFirstFault, IsBadByte, IsFaultBehind, IsNextNumber}
use Rattle.table_files.specs.FirstTableFault.{MayFollow, SpellsPart}
use Rattle.table_files.specs.Permutation.{IsPart}
use Rattle.table_files.specs.SpelledTables.{numbers_of, text_of}
use Rattle.table_files.specs.TableText.{DigitRun, Reading, and_then, complete, ended, is_digit, is_separator, judged, read_from}
use Rattle.table_files.specs.TableText.{read_table, step}
use Rattle.table_files.specs.declared.fault.TableFault.{TableFault}
use Rattle.table_files.specs.declared.fault.TableFault.TheVariants.{BadByte, TooLarge, Repeated, Count}
use Rattle.table_files.proofs.Parts.{found_repeated, inside_from_any, list_any_flip}
use Rattle.table_files.proofs.Spellings.{IsReadAs, number_read, read_behind, spelled_read, spelled_read_as, without_run}
use Rattle.table_files.proofs.WhatIsSpelled.{IsOutcome, read_outcome}

-- a reading with a run
abbrev with_run : List ℕ → ℕ → ℕ → Reading
with_run numbers at value = record { numbers = numbers; run = Some (record { at = at; value = value }) }

-- how a text is read that spells numbers of a table
read_as : (size : ℕ) (front numbers : List ℕ) (h : SpellsPart size front numbers) → size ≤ 65535
    → IsReadAs size 0 (text_of h.spells.spelled h.spells.last) (without_run []) (numbers_of h.spells.spelled)
    (MayFollow h.spells.spelled h.spells.last)
read_as size front numbers h fits =
    let s = h.spells in
    let P : List ℕ → Type 0 = IsPart size in
    spelled_read_as size s.spelled s.last fits s.words s.gap (subst P s.values h.part)

-- a byte that is neither digit nor separator
bad_step : (size at byte : ℕ) (rest numbers : List ℕ) (reading : Reading) → ended size reading.numbers reading.run ≡ Ok numbers
    → is_digit byte ≡ false → is_separator byte ≡ false → read_from size at (byte ∷ rest) reading ≡ Err (BadByte at)
unfolding step
bad_step size at byte rest numbers reading ends digit separator = rw (digit, ends, separator) refl

bad_found : (size at : ℕ) (bytes numbers : List ℕ) → size ≤ 65535 → IsBadByte size bytes at numbers
    → read_table size bytes ≡ Err (BadByte at)
bad_found size at bytes numbers fits b =
    let r = read_as size b.before numbers b.numbers_are fits in
    read_behind size bytes b.before (b.byte ∷ b.after) numbers b.numbers_are.spells r b.text
    ∙ bad_step size (length b.before) b.byte b.after (numbers_of b.numbers_are.spells.spelled) r.reading r.ends b.no_digit
    b.no_separator
    ∙ ap (λ at. Err (BadByte at)) b.place

-- digits that end with a refused number
run_refused : (size at : ℕ) (after numbers : List ℕ) (run : DigitRun) (fault : TableFault) → BeginsWithNoDigit after
    → judged size numbers run ≡ Err fault
    → read_from size at after (record { numbers = numbers; run = Some run }) ≡ Err fault
unfolding step
run_refused size at [] numbers run fault longest refused = ap (λ answer. and_then answer (complete size)) refused
run_refused size at (byte ∷ after) numbers run fault longest refused = rw (longest, refused) refl

-- a number that is refused
number_refused : (size at value : ℕ) (bytes numbers : List ℕ) (fault : TableFault) → size ≤ 65535
    → IsNextNumber size bytes at value numbers → judged size numbers (record { at = at; value = value }) ≡ Err fault
    → read_table size bytes ≡ Err fault
number_refused size at value bytes numbers fault fits n refused =
    let h = n.leads_on.numbers_are in
    let r = read_as size n.before numbers h fits in
    let ready : r.reading ≡ without_run numbers =
    r.ready n.leads_on.may_follow ∙ ap (λ xs. without_run xs) (sym h.spells.values)
    in
    let place : ℕ = length n.before in
    let behind : ℕ = place + length n.digits in
    read_behind size bytes n.before (n.digits ++ n.after) numbers h.spells r n.text
    ∙ ap (λ reading. read_from size place (n.digits ++ n.after) reading) ready
    ∙ number_read size place n.digits n.after numbers n.some n.all
    ∙ ap (λ v. read_from size behind n.after (with_run numbers place v)) (sym n.held)
    ∙ ap (λ k. read_from size behind n.after (with_run numbers k value)) n.place
    ∙ run_refused size behind n.after numbers (record { at = at; value = value }) fault n.longest refused

large_refused : (size at value : ℕ) (numbers : List ℕ) → size ≤ value
    → judged size numbers (record { at = at; value = value }) ≡ Err (TooLarge at value)
unfolding judged
large_refused size at value numbers large = rw (le-leb size value large) refl

repeated_refused : (size at value : ℕ) (numbers : List ℕ) → IsPart size numbers → list_any (eqb value) numbers ≡ true
    → judged size numbers (record { at = at; value = value }) ≡ Err (Repeated value)
repeated_refused size at value numbers part there =
    let below : value < size = inside_from_any size numbers part.inside value there in
    sym (found_repeated size numbers (record { at = at; value = value }) below (list_any_flip value numbers ∙ there))

few_refused : (size found : ℕ) (numbers : List ℕ) → length numbers ≡ found → found < size
    → complete size numbers ≡ Err (Count found)
few_refused size found numbers is few =
    let less : nat_lt (length numbers) size ≡ true = rw is (lt-ltb found size few) in
    rw less (ap (λ n. Err (Count n)) is)

fault_found : (size : ℕ) (bytes : List ℕ) (fault : TableFault) (numbers : List ℕ) → size ≤ 65535
    → IsFaultBehind size bytes fault numbers → read_table size bytes ≡ Err fault
fault_found size bytes (BadByte at) numbers fits f = bad_found size at bytes numbers fits f
fault_found size bytes (TooLarge at value) numbers fits f =
    number_refused size at value bytes numbers (TooLarge at value) fits f.0 (large_refused size at value numbers f.1)
fault_found size bytes (Repeated value) numbers fits (at, next, there) =
    number_refused size at value bytes numbers (Repeated value) fits next
    (repeated_refused size at value numbers next.leads_on.numbers_are.part there)
fault_found size bytes (Count found) numbers fits (s, is, few) =
    spelled_read size bytes numbers fits s.spells s.part ∙ few_refused size found numbers is few

-- a text is refused with a fault exactly where that is its first
pub finds_first_fault : FindsFirstFault
finds_first_fault size bytes fault fits = (
  (λ is. subst (IsOutcome size bytes) is (read_outcome size bytes fits)),
  (λ (numbers, f). fault_found size bytes fault numbers fits f),
)
