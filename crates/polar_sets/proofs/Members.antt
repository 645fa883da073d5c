-- Members of lists: of the last of a list, of those that pass a test, and of a table.
use Rattle.std.proofs.Common.{ℕ, ◌≡◌, ◌≢◌, ◌+◌, ◌-◌, ◌<◌, ◌≤◌, Bool, true, ◌&&◌, List, drop, take, length}
use Rattle.std.proofs.Common.{ap, sym, ◌∙◌, arith}
use Rattle.std.specs.Prelude.{◌==◌}
use Rattle.std.specs.List.{filter}
use Rattle.std.proofs.lemmas.Bool.{eqb-true, or_right}
use Rattle.std.proofs.lemmas.Bool.Decides.{Decides-eqb}
use Rattle.std.proofs.lemmas.List.{get_or-drop, length-drop, take-append-drop}
use Rattle.std.proofs.lemmas.List.Folds.{list_any-append}
use Rattle.std.proofs.lemmas.List.Kept.{AllPairs-filter}
use Rattle.std.proofs.lemmas.Map.Made.{AllPairs-from_IsDistinct}
use Rattle.std.proofs.lemmas.Map.Views.{any-filter_same}
use Rattle.table_files.specs.Permutation.{IsTable}
use Rattle.table_files.proofs.Parts.{list_any_flip}
use Rattle.polar_sets.specs.InformationPositions.{is_in, last_of}
use Rattle.list_facts.proofs.Counting.{AreApart}

-- a member of the last numbers is one of all
pub in_drop : (i : ℕ) (xs : List ℕ) (p : ℕ) → is_in (drop i xs) p ≡ true → is_in xs p ≡ true
in_drop i xs p h =
    ap (λ (ys : List ℕ). is_in ys p) (sym (take-append-drop i xs))
    ∙ list_any-append (λ x. x == p) (take i xs) (drop i xs)
    ∙ or_right (is_in (take i xs) p) (is_in (drop i xs) p) h

-- the last numbers of different ones are different
pub apart_drop : (i : ℕ) (xs : List ℕ) → AreApart xs → AreApart (drop i xs)
apart_drop i xs h j k d l m =
    let n = length-drop i xs in
    λ e. h (i + j) (i + k) d (omega arith) (omega arith) (sym (get_or-drop i xs j d) ∙ e ∙ get_or-drop i xs k d)

-- the members that pass a test
pub in_filter : (test : ℕ → Bool) (xs : List ℕ) (p : ℕ) → is_in (filter test xs) p ≡ (test p && is_in xs p)
in_filter test xs p = any-filter_same (λ x. x == p) test (test p) (λ x e. ap test (eqb-true x p e)) xs

-- how many the last are
pub length_last : (k : ℕ) (xs : List ℕ) → k ≤ length xs → length (last_of k xs) ≡ k
length_last k xs h = let l = length-drop (length xs - k) xs in omega arith

-- a table has each number below its size
pub in_table : (size : ℕ) (xs : List ℕ) (p : ℕ) → IsTable size xs → p < size → is_in xs p ≡ true
in_table size xs p h l = list_any_flip p xs ∙ h.each p l

-- the numbers of a table are different
pub table_apart : (size : ℕ) (xs : List ℕ) → IsTable size xs → AreApart xs
table_apart size xs h = AllPairs-from_IsDistinct Decides-eqb xs h.distinct

-- those that pass a test are different
pub filter_apart : (test : ℕ → Bool) (xs : List ℕ) → AreApart xs → AreApart (filter test xs)
filter_apart test xs h = AllPairs-filter (λ x y. x ≢ y) test xs h
