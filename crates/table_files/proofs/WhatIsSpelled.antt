-- A text is read as the table that it spells, or refused with its first fault.
use Rattle.std.proofs.Common.{◌≡◌, ℕ, ◌+◌, ◌-◌, ◌*◌, ◌<◌, ◌≤◌, ◌==◌, ◌↔◌, min, true, false, cond, nat_le, nat_lt}
use Rattle.std.proofs.Common.{List, [], ◌∷◌, ◌++◌, length, Option, Some, None, Result, Ok, Err, refl, sym, ◌∙◌, ap, subst, arith}
use Rattle.std.proofs.Common.{append_assoc, length-append}
use Rattle.std.specs.List.{AllByRecursion, list_any}
use Rattle.std.proofs.lemmas.Bool.{leb-true, leb-false, ltb-true, ltb-false}
use Rattle.std.proofs.lemmas.List.{append-nil, map-append}
use Rattle.table_files.specs.FirstTableFault.{BeginsWithNoDigit, IsBadByte, IsFirstFault, IsNextNumber, LeadsOn, MayFollow}
use Rattle.table_files.specs.FirstTableFault.{SpellsPart}
use Rattle.table_files.specs.Permutation.{IsPart, IsTable}
use Rattle.table_files.specs.SpelledTables.{Spelled, Spells, IsSpelled, AreDigits, AreLater, AreSpelled, ReadWhereSpelled}
use Rattle.table_files.specs.SpelledTables.{text_of, value_after}
use Rattle.table_files.specs.TableText.{DigitRun, Reading, and_then, complete, ended, is_digit, is_separator, judged, longer}
use Rattle.table_files.specs.TableText.{read_from, read_table, step}
use Rattle.table_files.specs.declared.fault.TableFault.{TableFault}
use Rattle.table_files.specs.declared.fault.TableFault.TheVariants.{BadByte, TooLarge, Repeated, Count}
use Rattle.table_files.proofs.Parts.{list_any_flip, part_empty, part_length, part_more, table_from_part}
use Rattle.table_files.proofs.Spellings.{digit_most, spelled_read, whole_complete}

-- what an answer says of a text
abbrev pub IsOutcome : ℕ → List ℕ → Result (List ℕ) TableFault → Type 0
IsOutcome size bytes (Ok numbers) = IsTable size numbers × Spells bytes numbers
IsOutcome size bytes (Err fault) = IsFirstFault size bytes fault

-- a test holds of one element more
all_more : (P : ℕ → Type 0) (xs : List ℕ) (x : ℕ) → AllByRecursion P xs → P x → AllByRecursion P (xs ++ x ∷ [])
all_more P [] x all h = (h, tt)
all_more P (y ∷ xs) x all h = (all.0, all_more P xs x all.1 h)

-- spelled numbers with more bytes behind them
text_of-append : (spelled : List Spelled) (last rest : List ℕ) → text_of spelled last ++ rest ≡ text_of spelled (last ++ rest)
text_of-append [] last rest = refl
text_of-append (number ∷ later) last rest =
    append_assoc number.gap (number.digits ++ text_of later last) rest
    ∙ ap (λ t. number.gap ++ t)
    (append_assoc number.digits (text_of later last) rest ∙ ap (λ t. number.digits ++ t) (text_of-append later last rest))

-- spelled numbers with one more
text_of_more : (spelled : List Spelled) (word : Spelled) (last : List ℕ)
    → text_of (spelled ++ word ∷ []) last ≡ text_of spelled (word.gap ++ (word.digits ++ last))
text_of_more [] word last = refl
text_of_more (number ∷ later) word last = ap (λ t. number.gap ++ (number.digits ++ t)) (text_of_more later word last)

later_more : (later : List Spelled) (word : Spelled) → AreLater later → 0 < length word.gap → IsSpelled word
    → AreLater (later ++ word ∷ [])
later_more [] word all some good = (some, good, tt)
later_more (number ∷ later) word all some good = (all.0, all.1, later_more later word all.2 some good)

words_more : (spelled : List Spelled) (word : Spelled) → AreSpelled spelled → MayFollow spelled word.gap → IsSpelled word
    → AreSpelled (spelled ++ word ∷ [])
words_more [] word all follows good = (good, tt)
words_more (number ∷ later) word all follows good = (all.0, later_more later word all.1 follows good)

-- the value of one digit more
value_after_more : (value : ℕ) (digits : List ℕ) (digit : ℕ)
    → value_after value (digits ++ digit ∷ []) ≡ 10 * value_after value digits + (digit - 48)
value_after_more value [] digit = refl
value_after_more value (first ∷ digits) digit = value_after_more (10 * value + (first - 48)) digits digit

-- the text ends with digits that have not ended, behind numbers of a table
record IsInRun (size : ℕ) (front numbers : List ℕ) (run : DigitRun) : Type 0 where
  before : List ℕ
  digits : List ℕ
  text : front ≡ before ++ digits
  place : length before ≡ run.at
  leads_on : LeadsOn size before numbers
  some : 0 < length digits
  all : AreDigits digits
  held : run.value ≡ min 65535 (value_after 0 digits)

-- what a text has led to: numbers, with digits behind them or with none
abbrev HasLedTo : ℕ → List ℕ → List ℕ → Option DigitRun → Type 0
HasLedTo size front numbers None = LeadsOn size front numbers
HasLedTo size front numbers (Some run) = IsInRun size front numbers run

no_text : (size : ℕ) → LeadsOn size [] []
no_text size = record {
  numbers_are = record {
    spells = record { spelled = []; last = []; text = refl; words = tt; gap = tt; values = refl };
    part = part_empty size;
  };
  may_follow = tt;
}

-- one more digit
digit_more : (size at byte : ℕ) (front numbers : List ℕ) (run : Option DigitRun) → is_digit byte ≡ true → length front ≡ at
    → HasLedTo size front numbers run → IsInRun size (front ++ byte ∷ []) numbers (longer run at byte)
digit_more size at byte front numbers None is place h =
    let most : byte ≤ 57 = digit_most byte is in
    let begins : byte - 48 ≡ min 65535 (10 * 0 + (byte - 48)) = omega arith in
    record {
      before = front;
      digits = byte ∷ [];
      text = refl;
      place = place;
      leads_on = h;
      some = omega arith;
      all = (is, tt);
      held = begins;
    }
digit_more size at byte front numbers (Some run) is place h =
    let value : ℕ = value_after 0 h.digits in
    let kept : min 65535 (10 * min 65535 value + (byte - 48)) ≡ min 65535 (10 * value + (byte - 48)) = omega arith in
    record {
      before = h.before;
      digits = h.digits ++ byte ∷ [];
      text = ap (λ t. t ++ byte ∷ []) h.text ∙ append_assoc h.before h.digits (byte ∷ []);
      place = h.place;
      leads_on = h.leads_on;
      some = omega (arith, length-append h.digits (byte ∷ []));
      all = all_more (λ b. is_digit b ≡ true) h.digits byte h.all is;
      held =
          ap (λ v. min 65535 (10 * v + (byte - 48))) h.held
          ∙ kept
          ∙ ap (λ v. min 65535 v) (sym (value_after_more 0 h.digits byte));
    }

-- digits that end with a number of a table
run_spells : (size : ℕ) (front numbers : List ℕ) (run : DigitRun) → size ≤ 65535 → IsInRun size front numbers run
    → run.value < size → list_any (λ x. x == run.value) numbers ≡ false → SpellsPart size front (numbers ++ run.value ∷ [])
run_spells size front numbers run fits h below new =
    let s = h.leads_on.numbers_are.spells in
    let word : Spelled = record { gap = s.last; digits = h.digits } in
    let value : ℕ = value_after 0 h.digits in
    let kept = h.held in
    let exact : run.value ≡ value = omega arith in
    record {
      spells = record {
        spelled = s.spelled ++ word ∷ [];
        last = [];
        text = h.text ∙ ap (λ t. t ++ h.digits) s.text ∙ text_of-append s.spelled s.last h.digits
            ∙ ap (λ t. text_of s.spelled (s.last ++ t)) (sym (append-nil h.digits)) ∙ sym (text_of_more s.spelled word []);
        words = words_more s.spelled word s.words h.leads_on.may_follow (record { gap = s.gap; some = h.some; digits = h.all });
        gap = tt;
        values = ap (λ v. numbers ++ v ∷ []) exact ∙ ap (λ xs. xs ++ value ∷ []) s.values
            ∙ sym (map-append (λ number. value_after 0 number.digits) s.spelled (word ∷ []));
      };
      part = part_more size numbers run.value h.leads_on.numbers_are.part below new;
    }

follows_separator : (spelled : List Spelled) (last : List ℕ) (byte : ℕ) → MayFollow spelled (last ++ byte ∷ [])
follows_separator [] last byte = tt
follows_separator (number ∷ later) last byte = omega (arith, length-append last (byte ∷ []))

-- one more separator
separator_more : (size byte : ℕ) (front numbers : List ℕ) → SpellsPart size front numbers → is_separator byte ≡ true
    → LeadsOn size (front ++ byte ∷ []) numbers
separator_more size byte front numbers h is =
    let s = h.spells in
    record {
      numbers_are = record {
        spells = record {
          spelled = s.spelled;
          last = s.last ++ byte ∷ [];
          text = ap (λ t. t ++ byte ∷ []) s.text ∙ text_of-append s.spelled s.last (byte ∷ []);
          words = s.words;
          gap = all_more (λ b. is_separator b ≡ true) s.last byte s.gap is;
          values = s.values;
        };
        part = h.part;
      };
      may_follow = follows_separator s.spelled s.last byte;
    }

-- once digits have ended, they are a number of a table, or the first fault
ended_by : (size : ℕ) (front after numbers : List ℕ) (run : Option DigitRun) (P : Result (List ℕ) TableFault → Type 0)
    → size ≤ 65535 → HasLedTo size front numbers run → BeginsWithNoDigit after
    → ((whole : List ℕ) → SpellsPart size front whole → P (Ok whole))
    → ((fault : TableFault) → IsFirstFault size (front ++ after) fault → P (Err fault)) → P (ended size numbers run)
unfolding judged
ended_by size front after numbers None P fits h longest good bad = good numbers h.numbers_are
ended_by size front after numbers (Some run) P fits h longest good bad =
    let next : IsNextNumber size (front ++ after) run.at run.value numbers = record {
      before = h.before;
      digits = h.digits;
      after = after;
      text = ap (λ t. t ++ after) h.text ∙ append_assoc h.before h.digits after;
      place = h.place;
      leads_on = h.leads_on;
      some = h.some;
      all = h.all;
      longest = longest;
      held = h.held;
    } in
    elim (nat_le size run.value) as (λ b. nat_le size run.value ≡ b
    → P (cond b (Err (TooLarge run.at run.value)) (cond (list_any (λ x. x == run.value) numbers) (Err (Repeated run.value))
    (Ok (numbers ++ run.value ∷ []))))) [
      | true ↦ λ e. bad (TooLarge run.at run.value) (numbers, (next, leb-true size run.value e))
      | false ↦ λ e.
          elim (list_any (λ x. x == run.value) numbers) as (λ b. list_any (λ x. x == run.value) numbers ≡ b
          → P (cond b (Err (Repeated run.value)) (Ok (numbers ++ run.value ∷ [])))) [
            | true ↦ λ f. bad (Repeated run.value) (numbers, (run.at, next, sym (list_any_flip run.value numbers) ∙ f))
            | false ↦ λ f.
                good (numbers ++ run.value ∷ [])
                (run_spells size front numbers run fits h (leb-false size run.value e) f)
          ] refl
    ] refl

-- the end of a text that spells numbers of a table
end_outcome : (size : ℕ) (front numbers : List ℕ) → SpellsPart size front numbers
    → IsOutcome size (front ++ []) (complete size numbers)
end_outcome size front numbers h =
    let P : List ℕ → Type 0 = λ t. SpellsPart size t numbers in
    let s : SpellsPart size (front ++ []) numbers = subst P (sym (append-nil front)) h in
    let most = part_length size numbers h.part in
    elim (nat_lt (length numbers) size) as (λ b. nat_lt (length numbers) size ≡ b
    → IsOutcome size (front ++ []) (cond b (Err (Count (length numbers))) (Ok numbers))) [
      | true ↦ λ e. (numbers, (s, refl, ltb-true (length numbers) size e))
      | false ↦ λ e.
          let least = ltb-false (length numbers) size e in
          (table_from_part size numbers h.part (omega arith), s.spells)
    ] refl

-- the rest of a text, behind what has been read
outcome_from : (size at : ℕ) (rest front numbers : List ℕ) (run : Option DigitRun) → size ≤ 65535 → length front ≡ at
    → HasLedTo size front numbers run
    → IsOutcome size (front ++ rest) (read_from size at rest (record { numbers = numbers; run = run }))
unfolding step
outcome_from size at [] front numbers run fits place h =
    ended_by size front [] numbers run (λ answer. IsOutcome size (front ++ []) (and_then answer (complete size))) fits h tt
    (λ whole s. end_outcome size front whole s) (λ fault f. f)
outcome_from size at (byte ∷ rest) front numbers run fits place h =
    let more : length (front ++ byte ∷ []) ≡ at + 1 = omega (arith, length-append front (byte ∷ [])) in
    let next : Reading → Type 0 = λ r. IsOutcome size (front ++ byte ∷ rest) (read_from size (at + 1) rest r) in
    let on = λ (r : Reading) (o : IsOutcome size ((front ++ byte ∷ []) ++ rest) (read_from size (at + 1) rest r)).
    (let moved : next r =
    subst (λ t. IsOutcome size t (read_from size (at + 1) rest r)) (append_assoc front (byte ∷ []) rest) o
    in moved)
    in
    elim (is_digit byte) as (λ b. is_digit byte ≡ b → IsOutcome size (front ++ byte ∷ rest)
    (and_then (cond b (Ok (record { numbers = numbers; run = Some (longer run at byte) }))
    (and_then (ended size numbers run) (λ whole.
    cond (is_separator byte) (Ok (record { numbers = whole; run = None })) (Err (BadByte at)))))
    (read_from size (at + 1) rest))) [
      | true ↦ λ e.
          on (record { numbers = numbers; run = Some (longer run at byte) })
          (outcome_from size (at + 1) rest (front ++ byte ∷ []) numbers (Some (longer run at byte)) fits more
          (digit_more size at byte front numbers run e place h))
      | false ↦ λ e.
          ended_by size front (byte ∷ rest) numbers run (λ answer. IsOutcome size (front ++ byte ∷ rest)
          (and_then (and_then answer (λ whole.
          cond (is_separator byte) (Ok (record { numbers = whole; run = None })) (Err (BadByte at))))
          (read_from size (at + 1) rest)))
          fits h e
          (λ whole s. elim (is_separator byte) as (λ b. is_separator byte ≡ b → IsOutcome size (front ++ byte ∷ rest)
          (and_then (cond b (Ok (record { numbers = whole; run = None })) (Err (BadByte at))) (read_from size (at + 1) rest))) [
            | true ↦ λ f.
                on (record { numbers = whole; run = None })
                (outcome_from size (at + 1) rest (front ++ byte ∷ []) whole None fits more
                (separator_more size byte front whole s f))
            | false ↦ λ f.
                let found : IsBadByte size (front ++ byte ∷ rest) at whole = record {
                  before = front;
                  byte = byte;
                  after = rest;
                  text = refl;
                  place = place;
                  numbers_are = s;
                  no_digit = e;
                  no_separator = f;
                } in
                (whole, found)
          ] refl)
          (λ fault f. f)
    ] refl

-- each text by its answer
pub read_outcome : (size : ℕ) (bytes : List ℕ) → size ≤ 65535 → IsOutcome size bytes (read_table size bytes)
read_outcome size bytes fits = outcome_from size 0 bytes [] [] None fits refl (no_text size)

-- a text is read as a list exactly where it spells that list and the list is a table
pub read_where_spelled : ReadWhereSpelled
read_where_spelled size bytes numbers fits = (
  (λ is. subst (IsOutcome size bytes) is (read_outcome size bytes fits)),
  (λ (table, s).
      let part : IsPart size numbers = record { inside = table.inside; distinct = table.distinct } in
      spelled_read size bytes numbers fits s part ∙ whole_complete size numbers table.long),
)

-- the same of an answer that is that of the reading
pub answers_where_spelled : (size : ℕ) (bytes : List ℕ) (answer : Result (List ℕ) TableFault) → size ≤ 65535
    → answer ≡ read_table size bytes
    → (numbers : List ℕ) → (answer ≡ Ok numbers) ↔ (IsTable size numbers × Spells bytes numbers)
answers_where_spelled size bytes answer fits same numbers =
    let law = read_where_spelled size bytes numbers fits in
    ((λ is. law.0 (sym same ∙ is)), (λ told. same ∙ law.1 told))
