-- The entries of a table by their places.
use Rattle.std.proofs.Common.{◌≡◌, ℕ, ◌<◌, List, get_or, eqb, inl, inr, sym, ◌∙◌, arith}
use Rattle.std.specs.Prelude.{slice_index}
use Rattle.std.proofs.lemmas.Bool.{cases_lt, eqb-false, eqb-true}
use Rattle.std.proofs.lemmas.List.{get_or_default}
use Rattle.std.proofs.lemmas.Map.Keys.{apart_from_distinct}
use Rattle.std.proofs.lemmas.Map.Views.{Contains-from_any}
use Rattle.table_files.specs.Permutation.{IsTable}

-- each is below the size
pub table_inside : (size : ℕ) (table : List ℕ) (i : ℕ) → IsTable size table → i < size → slice_index table i < size
table_inside size table i h l =
    let long = h.long in
    h.inside i 0 (omega arith)

-- no two are equal
pub table_once : (size : ℕ) (table : List ℕ) (i j : ℕ) → IsTable size table → i < size → j < size
    → slice_index table i ≡ slice_index table j → i ≡ j
table_once size table i j h l g same =
    let long = h.long in
    elim (cases_lt i j) [
      | inl f ↦
          let apart = apart_from_distinct eqb table i j 0 h.distinct f (omega arith) in
          absurd (eqb-false (get_or table i 0) (get_or table j 0) apart same)
      | inr f ↦ elim (cases_lt j i) [
        | inl b ↦
            let apart = apart_from_distinct eqb table j i 0 h.distinct b (omega arith) in
            absurd (eqb-false (get_or table j 0) (get_or table i 0) apart (sym same))
        | inr b ↦ omega arith
      ]
    ]

-- each number below the size stands at a place
pub table_place : (size : ℕ) (table : List ℕ) (number : ℕ) → IsTable size table → number < size
    → (i : ℕ) × (i < size) × (slice_index table i ≡ number)
table_place size table number h l =
    let long = h.long in
    let (i, below, at) = Contains-from_any eqb-true number table (h.each number l) in
    (i, omega arith, get_or_default table i 0 number below ∙ at)
