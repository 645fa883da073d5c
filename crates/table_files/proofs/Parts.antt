-- Numbers below a size with no two equal: there is room for one more, and as many as the size make a table.
use Rattle.std.proofs.Common.{◌≡◌, ℕ, ◌+◌, ◌<◌, ◌≤◌, ◌==◌, ◌||◌, true, false, All, eqb, List, [], ◌∷◌, ◌++◌, length, take, refl}
use Rattle.std.proofs.Common.{sym, ◌∙◌, ap, subst, arith, rules, slice_set, nat_le, Ok, Err, length-append}
use Rattle.std.specs.Cmp.{nat_eq_equiv}
use Rattle.std.specs.List.{IsDistinct, list_any}
use Rattle.std.proofs.lemmas.Bool.{eqb-true}
use Rattle.std.proofs.lemmas.List.{take_more_set, length-take-le, length-set, take_all}
use Rattle.std.proofs.lemmas.List.Elements.{All-nil, All-push}
use Rattle.std.proofs.lemmas.Map.Keys.{IsDistinct-push}
use Rattle.std.proofs.lemmas.Map.Steps.{length-le_from_distinct_below}
use Rattle.std.proofs.lemmas.Map.Views.{Contains-from_any}
use Rattle.table_files.specs.Permutation.{IsPart, IsTable}
use Rattle.table_files.specs.TableText.{DigitRun, judged}
use Rattle.table_files.specs.declared.fault.TableFault.TheVariants.{Repeated}

-- a test for equality asked from the other side
pub list_any_flip : (value : ℕ) (xs : List ℕ) → list_any (λ x. x == value) xs ≡ list_any (eqb value) xs
list_any_flip value [] = refl
list_any_flip value (x ∷ xs) =
    ap (λ b. b || list_any (λ y. y == value) xs) (nat_eq_equiv.symm x value) ∙ ap (λ b. eqb value x || b) (list_any_flip value xs)

-- a number that stands in a part is below the size
pub inside_from_any : (size : ℕ) (xs : List ℕ) → All (λ x. x < size) xs → (number : ℕ) → list_any (eqb number) xs ≡ true
    → number < size
inside_from_any size xs inside number h =
    let (k, below, is) = Contains-from_any eqb-true number xs h in
    let P : ℕ → Type 0 = λ x. x < size in subst P is (inside k number below)

-- a part has no more numbers than the size
pub part_length : (size : ℕ) (xs : List ℕ) → IsPart size xs → length xs ≤ size
part_length size xs part = length-le_from_distinct_below xs size part.distinct (inside_from_any size xs part.inside)

-- no numbers are a part
pub part_empty : (size : ℕ) → IsPart size []
unfolding IsDistinct
part_empty size = record { inside = All-nil (λ x. x < size); distinct = tt }

-- a part and one more number below the size, which is none of it
pub part_more : (size : ℕ) (xs : List ℕ) (value : ℕ) → IsPart size xs → value < size
    → list_any (λ x. x == value) xs ≡ false → IsPart size (xs ++ value ∷ [])
part_more size xs value part below new = record {
  inside = All-push (λ x. x < size) xs value part.inside below;
  distinct = IsDistinct-push nat_eq_equiv xs value part.distinct (sym (list_any_flip value xs) ∙ new);
}

-- there is room for a number that is none of a part
pub part_room : (size : ℕ) (xs : List ℕ) (value : ℕ) → IsPart size xs → value < size
    → list_any (λ x. x == value) xs ≡ false → length xs < size
part_room size xs value part below new =
    omega (arith, part_length size (xs ++ value ∷ []) (part_more size xs value part below new), length-append xs (value ∷ []))

-- as many numbers as the size are all of them
pub table_from_part : (size : ℕ) (xs : List ℕ) → IsPart size xs → length xs ≡ size → IsTable size xs
table_from_part size xs part long = record {
  long = long;
  inside = part.inside;
  distinct = part.distinct;
  each = λ number below.
      elim (list_any (eqb number) xs) as (λ b. list_any (eqb number) xs ≡ b → b ≡ true) [
        | true ↦ λ e. refl
        | false ↦ λ e.
            let room : length xs < size = part_room size xs number part below (list_any_flip number xs ∙ e) in
            let none : ⊥ = omega arith in absurd none
      ]
      refl;
}

-- the numbers that a reading found, in the array that it fills
pub found_room : (numbers : List ℕ) (found value : ℕ) → found ≤ length numbers → IsPart (length numbers) (take found numbers)
    → value < length numbers → list_any (λ x. x == value) (take found numbers) ≡ false → found < length numbers
found_room numbers found value few part below new =
    omega (arith, part_room (length numbers) (take found numbers) value part below new, length-take-le found numbers few)

-- a found number joins the part in the array
pub found_part : (numbers : List ℕ) (found value : ℕ) → found < length numbers → IsPart (length numbers) (take found numbers)
    → value < length numbers → list_any (λ x. x == value) (take found numbers) ≡ false
    → IsPart (length (slice_set numbers found value)) (take (found + 1) (slice_set numbers found value))
found_part numbers found value room part below new =
    let longer = part_more (length numbers) (take found numbers) value part below new in
    rw (length-set numbers found value, take_more_set numbers found value room) longer

-- the numbers that are found stay within the array
pub found_few : (numbers : List ℕ) (found value : ℕ) → found < length numbers → found + 1 ≤ length (slice_set numbers found value)
found_few numbers found value room = rw (length-set numbers found value) (omega arith)

-- a number that is taken is what the text's words take
pub found_read : (numbers : List ℕ) (found : ℕ) (run : DigitRun) → found < length numbers → run.value < length numbers
    → list_any (λ x. x == run.value) (take found numbers) ≡ false
    → Ok (take (found + 1) (slice_set numbers found run.value)) ≡ judged (length numbers) (take found numbers) run
unfolding judged
found_read numbers found run room below new =
    let small : nat_le (length numbers) run.value ≡ false = search rules in
    rw (small, new, take_more_set numbers found run.value room)

-- a number that was found before is refused
pub found_repeated : (size : ℕ) (numbers : List ℕ) (run : DigitRun) → run.value < size
    → list_any (λ x. x == run.value) numbers ≡ true → Err (Repeated run.value) ≡ judged size numbers run
unfolding judged
found_repeated size numbers run below there =
    let small : nat_le size run.value ≡ false = search rules in
    rw (small, there) refl

-- an array that is full of a part is a table
pub found_table : (numbers : List ℕ) (found : ℕ) → IsPart (length numbers) (take found numbers) → length numbers ≤ found
    → IsTable (length numbers) numbers
found_table numbers found part all =
    let P : List ℕ → Type 0 = IsPart (length numbers) in
    table_from_part (length numbers) numbers (subst P (take_all found numbers all) part) refl
