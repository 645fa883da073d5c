-- Lists of fields: widths, names, cutting to a size, and the list of an order.
use Rattle.std.proofs.Common.{◌≡◌, ℕ, ◌+◌, ◌-◌, ◌*◌, ◌<◌, ◌≤◌, Bool, true, false, not, ◌&&◌, inl, inr, cond, nat_lt}
use Rattle.std.proofs.Common.{List, [], ◌∷◌, length, map, get_or, take, drop, find, Some, unwrap_or, option_map, refl}
use Rattle.std.proofs.Common.{ap, sym, subst, ◌∙◌, arith}
use Rattle.std.specs.List.{list_all}
use Rattle.std.proofs.lemmas.Bool.{and_parts, and_from, or_cases, or_left, or_right, not-true, cases_Bool, ltb-true, lt-ltb}
use Rattle.std.proofs.lemmas.List.{length-map, drop_more, take_all}
use Rattle.std.proofs.lemmas.List.Sums.{sum_by-cons}
use Rattle.list_facts.proofs.Tests.{true_not_false}
use Rattle.dci_fields.specs.declared.names.FieldName.{FieldName}
use Rattle.dci_fields.specs.declared.names.FieldName.TheVariants as names
use Rattle.dci_fields.specs.declared.rows.FieldRow.{FieldRow}
use Rattle.dci_fields.specs.SameNames.{same_name}
use Rattle.dci_fields.specs.Equality.{decides_field_name}
use Rattle.dci_fields.specs.FieldLists.{width_of, BeginsWithIdentifier, are_apart, has_fdra, AreNarrow, IsFieldList}
use Rattle.dci_fields.specs.FormatRows.{row}
use Rattle.dci_fields.specs.FittedRows.{excess, fdra_of, cut_row, fitted, HasFdraSecond}

-- names that the test says are the same are so
pub named_same : (a b : FieldName) → same_name a b ≡ true → a ≡ b
named_same a b e = (decides_field_name a b).0 e

-- and the test says so of a name and itself
pub same_named : (a b : FieldName) → a ≡ b → same_name a b ≡ true
same_named a b e = (decides_field_name a b).1 e

-- a list of fields and the rest of it
pub width_of_cons : (r : FieldRow) (rs : List FieldRow) → width_of (r ∷ rs) ≡ r.width + width_of rs
width_of_cons r rs = sum_by-cons (λ (x : FieldRow). x.width) r rs

-- rows of at most 32 bits each
pub width_of_le : (rows : List FieldRow) → AreNarrow rows → width_of rows ≤ 32 * length rows
width_of_le [] h = omega arith
width_of_le (r ∷ rs) h = omega (arith, width_of_cons r rs, h.0, width_of_le rs h.1)

-- a list of fields has at most 1,024 bits
pub list_width_le : (rows : List FieldRow) → IsFieldList rows → width_of rows ≤ 1024
list_width_le rows h = omega (arith, width_of_le rows h.narrow, h.few)

-- the row at a place is no wider than the rows from there on
pub row_width_le : (rows : List FieldRow) (at : ℕ) (d : FieldRow) → at < length rows
    → (get_or rows at d).width ≤ width_of (drop at rows)
row_width_le rows at d h =
    omega (arith, ap width_of (drop_more rows at d h), width_of_cons (get_or rows at d) (drop (at + 1) rows))

-- names that differ from the frequency assignment's, where one is that
only_fdra : (name : FieldName) (rest : List FieldRow) → name ≡ names.Fdra
    → list_all (λ (other : FieldRow). not (same_name name other.name)) rest ≡ true → has_fdra rest ≡ true → ⊥
only_fdra name [] is apart h = cc
only_fdra name (r ∷ rs) is apart h =
    let parts = and_parts (not (same_name name r.name))
    (list_all (λ (other : FieldRow). not (same_name name other.name)) rs) apart in
    elim (or_cases (same_name r.name names.Fdra && nat_lt 0 r.width) (has_fdra rs) h) [
      | inl here ↦
          let same : name ≡ r.name =
          is ∙ sym (named_same r.name names.Fdra (and_parts (same_name r.name names.Fdra) (nat_lt 0 r.width) here).0) in
          true_not_false (same_name name r.name) (same_named name r.name same) (not-true (same_name name r.name) parts.0)
      | inr later ↦ only_fdra name rs is parts.1 later
    ]

-- the frequency assignment in second place has a bit
pub second_width : (rows : List FieldRow) (d : FieldRow) → IsFieldList rows → HasFdraSecond rows → 1 ≤ (get_or rows 1 d).width
second_width [] d h second = absurd second
second_width (first ∷ []) d h second = absurd second
second_width (first ∷ r ∷ rest) d h second =
    let later =
    (and_parts (list_all (λ (other : FieldRow). not (same_name first.name other.name)) (r ∷ rest))
    (are_apart (r ∷ rest)) h.apart).1 in
    let apart = (and_parts (list_all (λ (other : FieldRow). not (same_name r.name other.name)) rest) (are_apart rest) later).0 in
    elim (or_cases (same_name first.name names.Fdra && nat_lt 0 first.width) (has_fdra (r ∷ rest)) h.fdra) [
      | inl front ↦
          let same : names.Identifier ≡ names.Fdra = sym h.begins.0
          ∙ named_same first.name names.Fdra (and_parts (same_name first.name names.Fdra) (nat_lt 0 first.width) front).0 in
          let told : same_name names.Identifier names.Fdra ≡ true = same_named names.Identifier names.Fdra same in cc
      | inr more ↦ elim (or_cases (same_name r.name names.Fdra && nat_lt 0 r.width) (has_fdra rest) more) [
        | inl here ↦ ltb-true 0 r.width (and_parts (same_name r.name names.Fdra) (nat_lt 0 r.width) here).1
        | inr later2 ↦ absurd (only_fdra r.name rest second apart later2)
      ]
    ]

-- cutting keeps the names
cut_row_name : (bits : ℕ) (r : FieldRow) → (cut_row bits r).name ≡ r.name
cut_row_name bits r = elim (cases_Bool (same_name r.name names.Fdra)) [
  | inl is ↦ ap (λ (b : Bool). (cond b (row r.name (r.width - bits)) r).name) is
  | inr other ↦ ap (λ (b : Bool). (cond b (row r.name (r.width - bits)) r).name) other
]

cut_row_width : (bits : ℕ) (r : FieldRow) → (cut_row bits r).width ≤ r.width
cut_row_width bits r =
    let P : Bool → Type 0 = λ b. (cond b (row r.name (r.width - bits)) r).width ≤ r.width in
    elim (cases_Bool (same_name r.name names.Fdra)) [
      | inl is ↦ subst P (sym is) (omega arith)
      | inr other ↦ subst P (sym other) (omega arith)
    ]

cut_row_fdra : (bits : ℕ) (r : FieldRow) → same_name r.name names.Fdra ≡ true → (cut_row bits r).width ≡ r.width - bits
cut_row_fdra bits r is = ap (λ (b : Bool). (cond b (row r.name (r.width - bits)) r).width) is

cut_row_other : (bits : ℕ) (r : FieldRow) → same_name r.name names.Fdra ≡ false → (cut_row bits r).width ≡ r.width
cut_row_other bits r other = ap (λ (b : Bool). (cond b (row r.name (r.width - bits)) r).width) other

cut_others : (bits : ℕ) (name : FieldName) (rows : List FieldRow)
    → list_all (λ (other : FieldRow). not (same_name name other.name)) (map (cut_row bits) rows)
    ≡ list_all (λ (other : FieldRow). not (same_name name other.name)) rows
cut_others bits name [] = refl
cut_others bits name (r ∷ rs) =
    ap (λ (n : FieldName). not (same_name name n)
    && list_all (λ (other : FieldRow). not (same_name name other.name)) (map (cut_row bits) rs)) (cut_row_name bits r)
    ∙ ap (λ (b : Bool). not (same_name name r.name) && b) (cut_others bits name rs)

cut_apart : (bits : ℕ) (rows : List FieldRow) → are_apart (map (cut_row bits) rows) ≡ are_apart rows
cut_apart bits [] = refl
cut_apart bits (r ∷ rs) =
    ap (λ (n : FieldName). list_all (λ (other : FieldRow). not (same_name n other.name)) (map (cut_row bits) rs)
    && are_apart (map (cut_row bits) rs)) (cut_row_name bits r)
    ∙ ap (λ (b : Bool). b && are_apart (map (cut_row bits) rs)) (cut_others bits r.name rs)
    ∙ ap (λ (b : Bool). list_all (λ (other : FieldRow). not (same_name r.name other.name)) rs && b) (cut_apart bits rs)

cut_narrow : (bits : ℕ) (rows : List FieldRow) → AreNarrow rows → AreNarrow (map (cut_row bits) rows)
cut_narrow bits [] h = tt
cut_narrow bits (r ∷ rs) h = (omega (arith, cut_row_width bits r, h.0), cut_narrow bits rs h.1)

cut_begins : (bits : ℕ) (rows : List FieldRow) → BeginsWithIdentifier rows → BeginsWithIdentifier (map (cut_row bits) rows)
cut_begins bits [] h = h
cut_begins bits (r ∷ rs) h =
    (cut_row_name bits r ∙ h.0, cut_row_other bits r (ap (λ (n : FieldName). same_name n names.Fdra) h.0) ∙ h.1)

cut_fdra : (bits : ℕ) (rows : List FieldRow) → bits < fdra_of rows → has_fdra (map (cut_row bits) rows) ≡ true
cut_fdra bits [] h = absurd (omega arith)
cut_fdra bits (r ∷ rs) h =
    let width : FieldRow → ℕ = λ x. x.width in
    let whole : Bool → ℕ =
    λ b. unwrap_or (option_map width (cond b (Some r) (find (λ (x : FieldRow). same_name x.name names.Fdra) rs))) 0 in
    let P : ℕ → Type 0 = λ n. bits < n in
    elim (cases_Bool (same_name r.name names.Fdra)) [
      | inl is ↦
          let more : bits < r.width = subst P (ap whole is) h in
          let some : 0 < (cut_row bits r).width = omega (arith, cut_row_fdra bits r is, more) in
          or_left (same_name (cut_row bits r).name names.Fdra && nat_lt 0 (cut_row bits r).width)
          (has_fdra (map (cut_row bits) rs))
          (and_from (same_name (cut_row bits r).name names.Fdra) (nat_lt 0 (cut_row bits r).width)
          (ap (λ (n : FieldName). same_name n names.Fdra) (cut_row_name bits r) ∙ is) (lt-ltb 0 (cut_row bits r).width some))
      | inr other ↦
          or_right (same_name (cut_row bits r).name names.Fdra && nat_lt 0 (cut_row bits r).width)
          (has_fdra (map (cut_row bits) rs))
          (cut_fdra bits rs (subst P (ap whole other) h))
    ]

-- a list that is cut within its frequency assignment is one
pub fitted_is_list : (rows : List FieldRow) (size : ℕ) → IsFieldList rows → excess rows size < fdra_of rows
    → IsFieldList (fitted rows size)
fitted_is_list rows size h within = record {
  few = omega (arith, length-map rows (cut_row (excess rows size)), h.few);
  begins = cut_begins (excess rows size) rows h.begins;
  apart = cut_apart (excess rows size) rows ∙ h.apart;
  fdra = cut_fdra (excess rows size) rows within;
  narrow = cut_narrow (excess rows size) rows h.narrow;
}

-- the width so far and that of the next row
pub so_far_le : (rows list : List FieldRow) (width at : ℕ) (d : FieldRow) → rows ≡ list → IsFieldList list → at < length rows
    → width + width_of (drop at list) ≡ width_of list → width + (get_or rows at d).width ≤ 1024
so_far_le rows list width at d e h below so_far =
    let P : List FieldRow → Type 0 = λ xs. at < length xs → width + (get_or xs at d).width ≤ 1024 in
    let there : P list = λ within. omega (arith, so_far, row_width_le list at d within, list_width_le list h) in
    subst P (sym e) there below

-- the rows that were cut one by one are the list's
pub cut_list : (rows list out : List FieldRow) (size at bits : ℕ) → rows ≡ list → length rows ≤ at → bits ≡ excess list size
    → out ≡ map (cut_row bits) (take at list) → out ≡ fitted list size
cut_list rows list out size at bits e over is so_far =
    let within : length list ≤ at = omega (arith, ap length e) in
    so_far ∙ ap (λ (xs : List FieldRow). map (cut_row bits) xs) (take_all at list within)
    ∙ ap (λ (n : ℕ). map (cut_row n) list) is

-- a list whose second row is the frequency assignment
pub has_second : (rows : List FieldRow) (d : FieldRow) → 1 < length rows → (get_or rows 1 d).name ≡ names.Fdra
    → HasFdraSecond rows
has_second [] d h is = absurd (omega arith)
has_second (first ∷ []) d h is = absurd (omega arith)
has_second (first ∷ second ∷ rest) d h is = is
