-- How a text is read that spells numbers of a table.
use Rattle.std.proofs.Common.{◌≡◌, ℕ, ◌+◌, ◌-◌, ◌*◌, ◌<◌, ◌≤◌, ◌==◌, min, true, false, List, [], ◌∷◌, ◌++◌, length, nat_le}
use Rattle.std.proofs.Common.{nat_lt, Some, None, Ok, eqb, refl, sym, ◌∙◌, ap, subst, arith, rules, add-zero, append_assoc, All}
use Rattle.std.proofs.Common.{length-append, zero-add}
use Rattle.std.specs.List.{AllByRecursion, IsDistinct, list_any}
use Rattle.std.proofs.Math.Seq.{get_or-append_seam}
use Rattle.std.proofs.lemmas.Grind.{common_steps}
use Rattle.std.proofs.lemmas.List.{append-nil}
use Rattle.std.proofs.lemmas.Map.Keys.{IsDistinct-head, IsDistinct-tail}
use Rattle.table_files.specs.FirstTableFault.{MayFollow}
use Rattle.table_files.specs.Permutation.{IsPart}
use Rattle.table_files.specs.SpelledTables.{Spelled, Spells, AreDigits, AreLater, AreSeparators, AreSpelled, numbers_of}
use Rattle.table_files.specs.SpelledTables.{text_of, value_after}
use Rattle.table_files.specs.TableText.{DigitRun, Reading, and_then, complete, ended, is_digit, is_separator, judged, longer}
use Rattle.table_files.specs.TableText.{read_from, read_table, step}

-- the value that a run keeps after more digits
abbrev pub held : ℕ → List ℕ → ℕ
held value [] = value
held value (digit ∷ digits) = held (min 65535 (10 * value + (digit - 48))) digits

-- a held value is the value of its digits, held
pub held_value : (value : ℕ) (digits : List ℕ) → held (min 65535 value) digits ≡ min 65535 (value_after value digits)
held_value value [] = refl
held_value value (digit ∷ digits) =
    let kept : min 65535 (10 * min 65535 value + (digit - 48)) ≡ min 65535 (10 * value + (digit - 48)) = omega arith in
    ap (λ v. held v digits) kept ∙ held_value (10 * value + (digit - 48)) digits

-- no digit is above that of nine
pub digit_most : (byte : ℕ) → is_digit byte ≡ true → byte ≤ 57
digit_most byte is = grind (arith, common_steps)

separator_apart : (byte : ℕ) → is_separator byte ≡ true → is_digit byte ≡ false
separator_apart byte is = grind (arith, common_steps)

-- one step
digit_step : (size at byte : ℕ) (reading : Reading) → is_digit byte ≡ true
    → step size at byte reading ≡ Ok (record { numbers = reading.numbers; run = Some (longer reading.run at byte) })
unfolding step
digit_step size at byte reading is = rw is refl

separator_step : (size at byte : ℕ) (reading : Reading) (numbers : List ℕ) → is_separator byte ≡ true
    → ended size reading.numbers reading.run ≡ Ok numbers
    → step size at byte reading ≡ Ok (record { numbers = numbers; run = None })
unfolding step
separator_step size at byte reading numbers is ends = rw (separator_apart byte is, ends, is) refl

-- digits behind the first of a run
digits_read : (size at : ℕ) (digits rest numbers : List ℕ) (run : DigitRun) → AreDigits digits
    → read_from size at (digits ++ rest) (record { numbers = numbers; run = Some run })
    ≡ read_from size (at + length digits) rest
    (record { numbers = numbers; run = Some (record { at = run.at; value = held run.value digits }) })
digits_read size at [] rest numbers run all =
    ap (λ k. read_from size k rest (record { numbers = numbers; run = Some run })) (sym (add-zero at))
digits_read size at (digit ∷ digits) rest numbers run all =
    let next : DigitRun = longer (Some run) at digit in
    let place : at + 1 + length digits ≡ at + length (digit ∷ digits) = omega arith in
    ap (λ s. and_then s (read_from size (at + 1) (digits ++ rest)))
    (digit_step size at digit (record { numbers = numbers; run = Some run }) all.0)
    ∙ digits_read size (at + 1) digits rest numbers next all.1
    ∙ ap (λ k. read_from size k rest
    (record { numbers = numbers; run = Some (record { at = run.at; value = held next.value digits }) })) place

-- a whole number
pub number_read : (size at : ℕ) (digits rest numbers : List ℕ) → 0 < length digits → AreDigits digits
    → read_from size at (digits ++ rest) (record { numbers = numbers; run = None })
    ≡ read_from size (at + length digits) rest
    (record { numbers = numbers; run = Some (record { at = at; value = min 65535 (value_after 0 digits) }) })
number_read size at [] rest numbers some all = let none : ⊥ = omega arith in absurd none
number_read size at (digit ∷ digits) rest numbers some all =
    let first : DigitRun = longer None at digit in
    let place : at + 1 + length digits ≡ at + length (digit ∷ digits) = omega arith in
    let most : digit ≤ 57 = digit_most digit all.0 in
    let begins : digit - 48 ≡ min 65535 (10 * 0 + (digit - 48)) = omega arith in
    let value : held (digit - 48) digits ≡ min 65535 (value_after 0 (digit ∷ digits))
    = ap (λ v. held v digits) begins ∙ held_value (10 * 0 + (digit - 48)) digits in
    ap (λ s. and_then s (read_from size (at + 1) (digits ++ rest)))
    (digit_step size at digit (record { numbers = numbers; run = None }) all.0)
    ∙ digits_read size (at + 1) digits rest numbers first all.1
    ∙ ap (λ k. read_from size k rest
    (record { numbers = numbers; run = Some (record { at = at; value = held first.value digits }) })) place
    ∙ ap (λ v. read_from size (at + length (digit ∷ digits)) rest
    (record { numbers = numbers; run = Some (record { at = at; value = v }) })) value

-- separators where no run stands
gap_read : (size at : ℕ) (gap rest numbers : List ℕ) → AreSeparators gap
    → read_from size at (gap ++ rest) (record { numbers = numbers; run = None })
    ≡ read_from size (at + length gap) rest (record { numbers = numbers; run = None })
gap_read size at [] rest numbers all =
    ap (λ k. read_from size k rest (record { numbers = numbers; run = None })) (sym (add-zero at))
gap_read size at (byte ∷ gap) rest numbers all =
    let place : at + 1 + length gap ≡ at + length (byte ∷ gap) = omega arith in
    ap (λ s. and_then s (read_from size (at + 1) (gap ++ rest)))
    (separator_step size at byte (record { numbers = numbers; run = None }) numbers all.0 refl)
    ∙ gap_read size (at + 1) gap rest numbers all.1
    ∙ ap (λ k. read_from size k rest (record { numbers = numbers; run = None })) place

-- separators that end a run
gap_ends : (size at : ℕ) (gap rest before numbers : List ℕ) (run : DigitRun) → 0 < length gap → AreSeparators gap
    → judged size before run ≡ Ok numbers
    → read_from size at (gap ++ rest) (record { numbers = before; run = Some run })
    ≡ read_from size (at + length gap) rest (record { numbers = numbers; run = None })
gap_ends size at [] rest before numbers run some all ends = let none : ⊥ = omega arith in absurd none
gap_ends size at (byte ∷ gap) rest before numbers run some all ends =
    let place : at + 1 + length gap ≡ at + length (byte ∷ gap) = omega arith in
    ap (λ s. and_then s (read_from size (at + 1) (gap ++ rest)))
    (separator_step size at byte (record { numbers = before; run = Some run }) numbers all.0 ends)
    ∙ gap_read size (at + 1) gap rest numbers all.1
    ∙ ap (λ k. read_from size k rest (record { numbers = numbers; run = None })) place

-- the end of a text
pub whole_complete : (size : ℕ) (numbers : List ℕ) → length numbers ≡ size → complete size numbers ≡ Ok numbers
whole_complete size numbers long =
    let enough : nat_lt (length numbers) size ≡ false = search rules in rw enough refl

-- a number of a part
All_middle : (P : ℕ → Type 0) (before after : List ℕ) (number : ℕ) → All P (before ++ number ∷ after) → P number
All_middle P before after number all =
    let within : length before < length (before ++ number ∷ after) = omega (arith, length-append before (number ∷ after)) in
    subst P (get_or-append_seam before number after 0) (all (length before) 0 within)

-- a number of a part: it is none of those before it
all_middle : (P : ℕ → Type 0) (before after : List ℕ) (number : ℕ) → AllByRecursion P (before ++ number ∷ after) → P number
all_middle P [] after number all = all.0
all_middle P (x ∷ before) after number all = all_middle P before after number all.1

new_in_distinct : (before after : List ℕ) (number : ℕ) → IsDistinct eqb (before ++ number ∷ after)
    → list_any (λ x. x == number) before ≡ false
new_in_distinct [] after number distinct = refl
new_in_distinct (x ∷ before) after number distinct =
    let apart : eqb x number
    ≡ false =
    all_middle (λ y. eqb x y ≡ false) before after number (IsDistinct-head eqb x (before ++ number ∷ after) distinct) in
    let later = new_in_distinct before after number (IsDistinct-tail eqb x (before ++ number ∷ after) distinct) in
    rw (apart, later) refl

number_judged : (size at : ℕ) (before after : List ℕ) (value : ℕ) → size ≤ 65535 → IsPart size (before ++ value ∷ after)
    → judged size before (record { at = at; value = min 65535 value }) ≡ Ok (before ++ value ∷ [])
unfolding judged
number_judged size at before after value fits part =
    let below : value < size = All_middle (λ x. x < size) before after value part.inside in
    let kept : min 65535 value ≡ value = omega arith in
    let small : nat_le size value ≡ false = search rules in
    rw (kept, small, new_in_distinct before after value part.distinct) refl

-- a reading without a run
abbrev pub without_run : List ℕ → Reading
without_run numbers = record { numbers = numbers; run = None }

-- a text leads from one reading to another, whatever stands behind it
abbrev pub LeadsTo : ℕ → ℕ → List ℕ → Reading → Reading → Type 0
LeadsTo size at text before after =
    (rest : List ℕ) → read_from size at (text ++ rest) before ≡ read_from size (at + length text) rest after

none_leads : (size at : ℕ) (reading : Reading) → LeadsTo size at [] reading reading
none_leads size at reading rest = ap (λ k. read_from size k rest reading) (sym (add-zero at))

both_lead : (size at : ℕ) (text more : List ℕ) (first second third : Reading) → LeadsTo size at text first second
    → LeadsTo size (at + length text) more second third → LeadsTo size at (text ++ more) first third
both_lead size at text more first second third h g rest =
    let place : at + length text + length more ≡ at + length (text ++ more) = omega (arith, length-append text more) in
    ap (λ bytes. read_from size at bytes first) (append_assoc text more rest)
    ∙ h (more ++ rest)
    ∙ g rest
    ∙ ap (λ k. read_from size k rest third) place

-- what a text leads to that spells these numbers: a run may stand, but not where one more number may begin
pub record IsReadAs (size at : ℕ) (text : List ℕ) (start : Reading) (numbers : List ℕ) (Ready : Type 0) : Type 0 where
  pub reading : Reading
  pub leads : LeadsTo size at text start reading
  pub ends : ended size reading.numbers reading.run ≡ Ok numbers
  pub ready : Ready → reading ≡ record { numbers = numbers; run = None }

-- the numbers behind a run that has not ended
later_read : (size at : ℕ) (later : List Spelled) (last before numbers : List ℕ) (run : DigitRun) → size ≤ 65535
    → AreLater later → AreSeparators last → judged size before run ≡ Ok numbers → IsPart size (numbers ++ numbers_of later)
    → IsReadAs size at (text_of later last) (record { numbers = before; run = Some run }) (numbers ++ numbers_of later)
    (0 < length last)
later_read size at [] [] before numbers run fits all gap ends part = record {
  reading = record { numbers = before; run = Some run };
  leads = none_leads size at (record { numbers = before; run = Some run });
  ends = ends ∙ ap Ok (sym (append-nil numbers));
  ready = λ some. (let none : ⊥ = omega arith in absurd none);
}
later_read size at [] (byte ∷ gap) before numbers run fits all separators ends part = record {
  reading = record { numbers = numbers; run = None };
  leads = λ rest. gap_ends size at (byte ∷ gap) rest before numbers run (omega arith) separators ends;
  ends = ap Ok (sym (append-nil numbers));
  ready = λ some. ap (λ xs. without_run xs) (sym (append-nil numbers));
}
later_read size at (number ∷ later) last before numbers run fits all gap ends part =
    let value : ℕ = value_after 0 number.digits in
    let here : ℕ = at + length number.gap in
    let next : DigitRun = record { at = here; value = min 65535 value } in
    let grown : List ℕ = numbers ++ value ∷ [] in
    let same : grown ++ numbers_of later ≡ numbers ++ value ∷ numbers_of later =
    append_assoc numbers (value ∷ []) (numbers_of later) in
    let joins : judged size numbers next ≡ Ok grown = number_judged size here numbers (numbers_of later) value fits part in
    let P : List ℕ → Type 0 = IsPart size in
    let r =
    later_read size (here + length number.digits) later last numbers grown next fits all.2 gap joins (subst P (sym same) part)
    in
    record {
      reading = r.reading;
      leads =
          both_lead size at number.gap (number.digits ++ text_of later last) (record { numbers = before; run = Some run })
          (without_run numbers) r.reading
          (λ rest. gap_ends size at number.gap rest before numbers run all.0 all.1.gap ends)
          (both_lead size here number.digits (text_of later last) (without_run numbers)
          (record { numbers = numbers; run = Some next }) r.reading
          (λ rest. number_read size here number.digits rest numbers all.1.some all.1.digits) r.leads);
      ends = r.ends ∙ ap Ok same;
      ready = λ some. r.ready some ∙ ap (λ xs. without_run xs) same;
    }

-- numbers from the start of a text on
pub spelled_read_as : (size : ℕ) (spelled : List Spelled) (last : List ℕ) → size ≤ 65535 → AreSpelled spelled → AreSeparators last
    → IsPart size (numbers_of spelled)
    → IsReadAs size 0 (text_of spelled last) (without_run []) (numbers_of spelled) (MayFollow spelled last)
spelled_read_as size [] last fits all gap part = record {
  reading = without_run [];
  leads = λ rest. gap_read size 0 last rest [] gap;
  ends = refl;
  ready = λ follows. refl;
}
spelled_read_as size (number ∷ later) last fits all gap part =
    let value : ℕ = value_after 0 number.digits in
    let here : ℕ = 0 + length number.gap in
    let next : DigitRun = record { at = here; value = min 65535 value } in
    let joins : judged size [] next ≡ Ok (value ∷ []) = number_judged size here [] (numbers_of later) value fits part in
    let r = later_read size (here + length number.digits) later last [] (value ∷ []) next fits all.1 gap joins part in
    record {
      reading = r.reading;
      leads =
          both_lead size 0 number.gap (number.digits ++ text_of later last) (without_run []) (without_run []) r.reading
          (λ rest. gap_read size 0 number.gap rest [] all.0.gap)
          (both_lead size here number.digits (text_of later last) (without_run []) (record { numbers = []; run = Some next })
          r.reading (λ rest. number_read size here number.digits rest [] all.0.some all.0.digits) r.leads);
      ends = r.ends;
      ready = r.ready;
    }

-- a text that spells these numbers and goes on is read from there on
pub read_behind : (size : ℕ) (bytes front rest numbers : List ℕ) (s : Spells front numbers)
    (r : IsReadAs size 0 (text_of s.spelled s.last) (without_run []) (numbers_of s.spelled) (MayFollow s.spelled s.last))
    → bytes ≡ front ++ rest → read_table size bytes ≡ read_from size (length front) rest r.reading
read_behind size bytes front rest numbers s r is =
    let text : bytes ≡ text_of s.spelled s.last ++ rest = is ∙ ap (λ xs. xs ++ rest) s.text in
    let place : 0 + length (text_of s.spelled s.last) ≡ length front =
    zero-add (length (text_of s.spelled s.last)) ∙ ap length (sym s.text)
    in
    ap (read_table size) text ∙ r.leads rest ∙ ap (λ k. read_from size k rest r.reading) place

-- a text that spells numbers is read as what its numbers are at the end
pub spelled_read : (size : ℕ) (bytes numbers : List ℕ) → size ≤ 65535 → Spells bytes numbers → IsPart size numbers
    → read_table size bytes ≡ complete size numbers
spelled_read size bytes numbers fits s part =
    let P : List ℕ → Type 0 = IsPart size in
    let r = spelled_read_as size s.spelled s.last fits s.words s.gap (subst P s.values part) in
    read_behind size bytes bytes [] numbers s r (sym (append-nil bytes))
    ∙ ap (λ answer. and_then answer (complete size)) (r.ends ∙ ap Ok (sym s.values))
