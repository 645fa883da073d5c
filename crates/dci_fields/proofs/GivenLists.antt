-- Values that are asked for: which rows they are of, and that known ones settle values that fit.
use Rattle.std.proofs.Common.{◌≡◌, ℕ, zero, suc, ◌+◌, ◌-◌, ◌*◌, ◌/◌, ◌^◌, ◌<◌, ◌≤◌, Bool, true, false, not, ◌&&◌, inl}
use Rattle.std.proofs.Common.{inr, cond, nat_lt, List, [], ◌∷◌, Option, Some, None, length, map, get_or, find}
use Rattle.std.proofs.Common.{option_map, unwrap_or, slice_get, refl, ap, sym, subst, ◌∙◌, arith}
use Rattle.std.specs.List.{list_all, last_or}
use Rattle.std.proofs.lemmas.Bool.{and_parts, and_from, cases_Bool, cases_order, lt-ltb, not-true}
use Rattle.std.proofs.lemmas.List.Elements.{All-get_or}
use Rattle.std.proofs.lemmas.List.Sums.{AllPass-from_list_all}
use Rattle.std.proofs.Math.Nat.{lt-mul-div-succ}
use Rattle.std.proofs.lemmas.Nat.{pow_pos}
use Rattle.std.proofs.lemmas.Option.{get_or_from_slice_get, same_Some, slice_get_within}
use Rattle.list_facts.proofs.Tests.{true_not_false}
use Rattle.dci_fields.specs.declared.formats.Format.{Format}
use Rattle.dci_fields.specs.declared.formats.Format.TheVariants.{F00, F10, Order, F01, F11}
use Rattle.dci_fields.specs.declared.names.FieldName.{FieldName}
use Rattle.dci_fields.specs.declared.names.FieldName.TheVariants as names
use Rattle.dci_fields.specs.declared.rows.FieldRow.{FieldRow}
use Rattle.dci_fields.specs.declared.fault.Given.{Given}
use Rattle.dci_fields.specs.Formats.{identifier_of}
use Rattle.dci_fields.specs.SameNames.{same_name}
use Rattle.dci_fields.specs.FieldLists.{BeginsWithIdentifier, are_apart, AreNarrow, IsFieldList}
use Rattle.dci_fields.specs.Payloads.{are_fitting, is_fixed}
use Rattle.dci_fields.specs.GivenValues.{is_for, those_for, values_for, last_value, fixed_value, settled_value, settled}
use Rattle.dci_fields.specs.GivenValues.{open_width, width_for, AreKnownBelow, AreKnown}
use Rattle.dci_fields.proofs.RowLists.{named_same, same_named}

-- a row of a narrow list
pub narrow_at : (rows : List FieldRow) (k : ℕ) (d : FieldRow) → AreNarrow rows → k < length rows → (get_or rows k d).width ≤ 32
narrow_at [] k d h within = absurd (omega arith)
narrow_at (r ∷ rs) zero d h within = h.0
narrow_at (r ∷ rs) (suc k) d h within = narrow_at rs k d h.1 (omega arith)

-- a value of which nothing is left of its width fits it
pub fits_width : (value width : ℕ) → value / 2 ^ width ≡ 0 → value < 2 ^ width
fits_width value width e =
    let none : 2 ^ width * (value / 2 ^ width + 1) ≡ 2 ^ width = ap (λ (n : ℕ). 2 ^ width * (n + 1)) e ∙ omega arith in
    omega (arith, lt-mul-div-succ value (pow_pos width), none)

-- one value more is known
pub known_more : (rows : List FieldRow) (format : Format) (given : List Given) (n : ℕ) (d : Given) (width : ℕ) → n < length given
    → AreKnownBelow rows format given n → width_for rows format (get_or given n d).name ≡ Some width
    → (get_or given n d).value < 2 ^ width
    → AreKnownBelow rows format given (n + 1)
known_more rows format given n d width within known of fits at g below found =
    elim (cases_order at n) [
      | inl same ↦
          let is : get_or given n d ≡ g = ap (λ (k : ℕ). get_or given k d) (sym same)
          ∙ get_or_from_slice_get given at g d found in
          let P : Given → Type 0 = λ x. (w : ℕ) × (width_for rows format x.name ≡ Some w) × (x.value < 2 ^ w) in
          subst P is (width, of, fits)
      | inr (inl less) ↦ known at g less found
      | inr (inr more) ↦ absurd (omega (arith, below, more))
    ]

-- a test that all elements pass, one of them passes
holds_at : {X : Type 0} (p : X → Bool) (xs : List X) (k : ℕ) (d : X) → list_all p xs ≡ true → k < length xs
    → p (get_or xs k d) ≡ true
holds_at p xs k d h within = All-get_or (λ x. p x ≡ true) xs k d within (AllPass-from_list_all p xs h)

-- no later row has the name of the first
differs_from_first : (r : FieldRow) (rs : List FieldRow) (k : ℕ) (d : FieldRow) → are_apart (r ∷ rs) ≡ true → k < length rs
    → same_name r.name (get_or rs k d).name ≡ false
differs_from_first r rs k d apart within =
    let differs : FieldRow → Bool = λ other. not (same_name r.name other.name) in
    not-true (same_name r.name (get_or rs k d).name)
    (holds_at differs rs k d (and_parts (list_all differs rs) (are_apart rs) apart).0 within)

-- the rows after the first are apart too
rest_apart : (r : FieldRow) (rs : List FieldRow) → are_apart (r ∷ rs) ≡ true → are_apart rs ≡ true
rest_apart r rs apart = (and_parts (list_all (λ (other : FieldRow). not (same_name r.name other.name)) rs) (are_apart rs) apart).1

-- the width of a row that is not fixed, by its name
pub open_width-at : (rows : List FieldRow) (format : Format) (k : ℕ) (d : FieldRow) → are_apart rows ≡ true → k < length rows
    → is_fixed (get_or rows k d).name format ≡ false
    → open_width rows format (get_or rows k d).name ≡ Some (get_or rows k d).width
open_width-at [] format k d apart within free = absurd (omega arith)
open_width-at (r ∷ rs) format zero d apart within free =
    let width : FieldRow → ℕ = λ x. x.width in
    let test : FieldRow → Bool = λ x. same_name x.name r.name && not (is_fixed x.name format) in
    let passes : test r ≡ true = and_from (same_name r.name r.name) (not (is_fixed r.name format))
    (same_named r.name r.name refl) (ap not free) in
    ap (λ (b : Bool). option_map width (cond b (Some r) (find test rs))) passes
open_width-at (r ∷ rs) format (suc k) d apart within free =
    let here : FieldRow = get_or rs k d in
    let width : FieldRow → ℕ = λ x. x.width in
    let test : FieldRow → Bool = λ x. same_name x.name here.name && not (is_fixed x.name format) in
    let below : k < length rs = omega arith in
    let fails : test r ≡ false =
    ap (λ (b : Bool). b && not (is_fixed r.name format)) (differs_from_first r rs k d apart below) in
    ap (λ (b : Bool). option_map width (cond b (Some r) (find test rs))) fails
    ∙ open_width-at rs format k d (rest_apart r rs apart) below free

-- what holds of a value that stood before and of each entry with the name holds of the last value
last_keeps : (P : ℕ → Type 0) (name : FieldName) (before : Option ℕ) (given : List Given) → P (unwrap_or before 0)
    → ((at : ℕ) (g : Given) → slice_get given at ≡ Some g → is_for name g.name ≡ true → P g.value)
    → P (unwrap_or (last_or before (values_for name given)) 0)
last_keeps P name before [] h each = h
last_keeps P name before (g ∷ gs) h each =
    let rest = those_for name gs in
    let last : List Given → ℕ = λ (those : List Given). unwrap_or (last_or before (map (λ (x : Given). x.value) those)) 0 in
    let R : Bool → Type 0 = λ b. P (last (cond b (g ∷ rest) rest)) in
    elim (cases_Bool (is_for name g.name)) [
      | inl is ↦
          subst R (sym is) (last_keeps P name (Some g.value) gs (each 0 g refl is) (λ at x found of. each (suc at) x found of))
      | inr other ↦ subst R (sym other) (last_keeps P name before gs h (λ at x found of. each (suc at) x found of))
    ]

-- the last value, 0 where there is none, is the last one after a 0
pub last_or_zero : (values : List ℕ) → unwrap_or (last_or None values) 0 ≡ unwrap_or (last_or (Some 0) values) 0
last_or_zero [] = refl
last_or_zero (v ∷ vs) = refl

-- an entry that is for a name has it
is_for_name : (name : FieldName) (other : Option FieldName) → is_for name other ≡ true → other ≡ Some name
is_for_name name None h = cc
is_for_name name (Some other) h = ap (λ (n : FieldName). Some n) (named_same other name h)

-- known values fit the rows that they are of
pub last_value-fits : (rows : List FieldRow) (format : Format) (given : List Given) (k : ℕ) (d : FieldRow)
    → are_apart rows ≡ true → k < length rows
    → is_fixed (get_or rows k d).name format ≡ false → AreKnown rows format given
    → last_value (get_or rows k d).name given < 2 ^ (get_or rows k d).width
last_value-fits rows format given k d apart within free known =
    let here : FieldRow = get_or rows k d in
    let P : ℕ → Type 0 = λ value. value < 2 ^ here.width in
    last_keeps P here.name None given (pow_pos here.width)
    (λ at g found is.
    let (width, of, fits) = known at g (slice_get_within given at g found) found in
    let same : width ≡ here.width = same_Some width here.width
    (sym of ∙ ap (width_for rows format) (is_for_name here.name g.name is)
    ∙ open_width-at rows format k d apart within free) in
    let Q : ℕ → Type 0 = λ w. g.value < 2 ^ w in
    subst Q same fits)

-- the identifier stands first alone
identifier_width : (rows : List FieldRow) (k : ℕ) (d : FieldRow) → BeginsWithIdentifier rows → are_apart rows ≡ true
    → k < length rows
    → (get_or rows k d).name ≡ names.Identifier → (get_or rows k d).width ≡ 1
identifier_width [] k d begins apart within is = absurd begins
identifier_width (r ∷ rs) zero d begins apart within is = begins.1
identifier_width (r ∷ rs) (suc k) d begins apart within is =
    let here : FieldRow = get_or rs k d in
    let same : same_name r.name here.name ≡ true = same_named r.name here.name (begins.0 ∙ sym is) in
    absurd (true_not_false (same_name r.name here.name) same (differs_from_first r rs k d apart (omega arith)))

identifier_of_le : (format : Format) → identifier_of format ≤ 1
identifier_of_le F00 = omega arith
identifier_of_le F10 = omega arith
identifier_of_le Order = omega arith
identifier_of_le F01 = omega arith
identifier_of_le F11 = omega arith

-- the value of a row that is fixed fits it
fixed_value-fits : (rows : List FieldRow) (format : Format) (k : ℕ) (d : FieldRow) → IsFieldList rows → k < length rows
    → fixed_value format (get_or rows k d) < 2 ^ (get_or rows k d).width
fixed_value-fits rows format k d h within =
    let here : FieldRow = get_or rows k d in
    let P : Bool → Type 0 = λ b. cond b (identifier_of format) (2 ^ here.width - 1) < 2 ^ here.width in
    elim (cases_Bool (same_name here.name names.Identifier)) [
      | inl is ↦
          let one : here.width ≡ 1 = identifier_width rows k d h.begins h.apart within
          (named_same here.name names.Identifier is) in
          let Q : ℕ → Type 0 = λ w. identifier_of format < 2 ^ w in
          subst P (sym is) (subst Q (sym one) (omega (arith, identifier_of_le format)))
      | inr other ↦ subst P (sym other) (omega (arith, pow_pos here.width))
    ]

-- the settled value of each row fits it
pub settled_value-fits : (rows : List FieldRow) (format : Format) (given : List Given) (k : ℕ) (d : FieldRow)
    → IsFieldList rows → k < length rows
    → AreKnown rows format given → settled_value format given (get_or rows k d) < 2 ^ (get_or rows k d).width
settled_value-fits rows format given k d h within known =
    let here : FieldRow = get_or rows k d in
    let P : Bool → Type 0 = λ b. cond b (fixed_value format here) (last_value here.name given) < 2 ^ here.width in
    elim (cases_Bool (is_fixed here.name format)) [
      | inl fixed ↦ subst P (sym fixed) (fixed_value-fits rows format k d h within)
      | inr free ↦ subst P (sym free) (last_value-fits rows format given k d h.apart within free known)
    ]

-- values that fit row by row fit the rows
pub fitting_all : (rows : List FieldRow) (f : FieldRow → ℕ)
    → ((k : ℕ) (d : FieldRow) → k < length rows → f (get_or rows k d) < 2 ^ (get_or rows k d).width)
    → are_fitting rows (map f rows) ≡ true
fitting_all [] f h = refl
fitting_all (r ∷ rs) f h =
    and_from (nat_lt (f r) (2 ^ r.width)) (are_fitting rs (map f rs)) (lt-ltb (f r) (2 ^ r.width) (h 0 r (omega arith)))
    (fitting_all rs f (λ k d within. h (suc k) d (omega arith)))

-- settled values of known ones fit
pub settled-fits : (rows : List FieldRow) (format : Format) (given : List Given) → IsFieldList rows → AreKnown rows format given
    → are_fitting rows (settled rows format given) ≡ true
settled-fits rows format given h known =
    fitting_all rows (settled_value format given) (λ k d within. settled_value-fits rows format given k d h within known)
