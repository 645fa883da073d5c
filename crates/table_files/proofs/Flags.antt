-- The flags of the numbers that a reading has found.
use Rattle.std.proofs.Common.{◌≡◌, ℕ, ◌+◌, ◌<◌, ◌≤◌, ◌==◌, ◌||◌, Bool, true, false, List, [], ◌∷◌, ◌++◌, length, take}
use Rattle.std.proofs.Common.{replicate, refl, sym, ◌∙◌, ap, arith, slice_index_or, slice_set, get_or, set}
use Rattle.std.specs.List.{list_any}
use Rattle.std.proofs.Math.Bool.{or-false, or-true}
use Rattle.std.proofs.lemmas.Bool.{eqb-true, eqb-false}
use Rattle.std.proofs.lemmas.Grind.{get_or-set_at}
use Rattle.std.proofs.lemmas.List.{get_or-replicate, get_or-set_other, length-replicate, length-set, take_more_set}
use Rattle.std.proofs.lemmas.List.Folds.{list_any-append}
use Rattle.table_files.specs.SeenNumbers.{AreFlags}

-- no flag is set, and no number is found
pub flags_none : (size count : ℕ) → size ≤ count → AreFlags size (replicate count false) []
flags_none size count enough = record {
  enough = omega (arith, length-replicate count false);
  each = λ value below. get_or-replicate count value false false (omega (arith, below, length-replicate count false));
}

-- a flag, once that of a number was set: it is the old one, or the number is its own
flag_set : (flags : List Bool) (value other : ℕ) → value < length flags
    → get_or (set flags value true) other false ≡ (get_or flags other false || (value == other || false))
flag_set flags value other room = elim (value == other) as (λ b. value == other ≡ b
    → get_or (set flags value true) other false ≡ (get_or flags other false || (b || false))) [
      | true ↦ λ e.
          let same : other ≡ value = sym (eqb-true value other e) in
          get_or-set_at flags value other true false same room ∙ sym (or-true (get_or flags other false))
      | false ↦ λ e.
          get_or-set_other flags value other true false (λ same. eqb-false value other e (sym same))
          ∙ sym (or-false (get_or flags other false))
    ] refl

-- one more number is found, and its flag set
flags_more : (size value : ℕ) (flags : List Bool) (numbers : List ℕ) → AreFlags size flags numbers → value < length flags
    → AreFlags size (set flags value true) (numbers ++ value ∷ [])
flags_more size value flags numbers are room = record {
  enough = let long = length-set flags value true in let enough = are.enough in omega arith;
  each = λ other below.
      let within : other < length flags = omega (arith, below, length-set flags value true) in
      flag_set flags value other room
      ∙ ap (λ b. b || (value == other || false)) (are.each other within)
      ∙ sym (list_any-append (λ number. number == other) numbers (value ∷ []));
}

-- the same of the numbers that stand first in an array
pub found_flags : (numbers : List ℕ) (seen : List Bool) (found value : ℕ) → found < length numbers → value < length numbers
    → AreFlags (length numbers) seen (take found numbers)
    → AreFlags (length (slice_set numbers found value)) (slice_set seen value true)
    (take (found + 1) (slice_set numbers found value))
found_flags numbers seen found value room below are =
    let enough = are.enough in
    let more = flags_more (length numbers) value seen (take found numbers) are (omega arith) in
    rw (length-set numbers found value, take_more_set numbers found value room) more

-- the flag of a number below the size says whether it was found
pub flag_read : (size value place : ℕ) (flags : List Bool) (numbers : List ℕ) (was : Bool) → AreFlags size flags numbers
    → value < size → place ≡ value → slice_index_or flags place false ≡ was → list_any (λ number. number == value) numbers ≡ was
flag_read size value place flags numbers was are below same is =
    let enough = are.enough in
    sym (are.each value (omega arith)) ∙ ap (λ i. slice_index_or flags i false) (sym same) ∙ is
