-- At most one answer of packing: one payload, or one fault.
use Rattle.std.proofs.Common.{◌≡◌, ℕ, zero, suc, ◌^◌, ◌<◌, ◌≤◌, ◌↔◌, Bool, true, inl, inr, List, [], ◌∷◌, Result, Ok}
use Rattle.std.proofs.Common.{Err, IfOk, length, map, get_or, refl, ap, sym, subst, ◌∙◌, arith}
use Rattle.std.proofs.lemmas.Bool.{and_parts, cases_order, not-true}
use Rattle.std.proofs.lemmas.Option.{none-some, same_Some, slice_get_within}
use Rattle.list_facts.proofs.Tests.{true_not_false}
use Rattle.dci_fields.specs.declared.formats.Format.{Format}
use Rattle.dci_fields.specs.declared.names.FieldName.{FieldName}
use Rattle.dci_fields.specs.declared.names.FieldName.TheVariants as names
use Rattle.dci_fields.specs.declared.rows.FieldRow.{FieldRow}
use Rattle.dci_fields.specs.declared.fault.Given.{Given}
use Rattle.dci_fields.specs.declared.fault.FieldFault.{FieldFault}
use Rattle.dci_fields.specs.declared.fault.FieldFault.TheVariants.{Unknown, TooLarge, AllOnes}
use Rattle.dci_fields.specs.FieldLists.{width_of}
use Rattle.dci_fields.specs.FormatRows.{row}
use Rattle.dci_fields.specs.Payloads.{is_all_ones, is_allowed, are_allowed}
use Rattle.dci_fields.specs.GivenValues.{last_value, settled_value, settled, width_for, IsUnknown, IsTooLarge}
use Rattle.dci_fields.specs.GivenValues.{AreKnownBelow, IsFieldFault, IsPayloadOf, IsPacked}
use Rattle.dci_fields.proofs.PayloadsOfRows.{payload_parts, length-payload_of}

-- what is known at a place is not unknown there
pub unknown_apart : (rows : List FieldRow) (format : Format) (given : List Given) (at n : ℕ) → at < n
    → IsUnknown rows format given at → AreKnownBelow rows format given n → ⊥
unknown_apart rows format given at n less (g, found, none) known =
    let (width, of, fits) = known at g less found in none-some width (sym none ∙ of)

-- nor too large
pub large_apart : (rows : List FieldRow) (format : Format) (given : List Given) (at n width : ℕ) → at < n
    → IsTooLarge rows format given at width → AreKnownBelow rows format given n → ⊥
large_apart rows format given at n width less (g, found, of, large) known =
    let (w, of_w, fits) = known at g less found in
    let same : w ≡ width = same_Some w width (sym of_w ∙ of) in
    let P : ℕ → Type 0 = λ x. g.value < 2 ^ x in
    omega (arith, large, subst P same fits)

-- a value of no field is one of those that are asked for
pub unknown_within : (rows : List FieldRow) (format : Format) (given : List Given) (at : ℕ) → IsUnknown rows format given at
    → at < length given
unknown_within rows format given at (g, found, none) = slice_get_within given at g found

-- and so is one that is too large
pub large_within : (rows : List FieldRow) (format : Format) (given : List Given) (at width : ℕ)
    → IsTooLarge rows format given at width → at < length given
large_within rows format given at width (g, found, of, large) = slice_get_within given at g found

-- a value is not of no field and of one
unknown_or_large : (rows : List FieldRow) (format : Format) (given : List Given) (at width : ℕ)
    → IsUnknown rows format given at → IsTooLarge rows format given at width → ⊥
unknown_or_large rows format given at width (g, found, none) (x, there, of, large) =
    let same : g ≡ x = same_Some g x (sym found ∙ there) in
    none-some width (sym none ∙ ap (λ (y : Given). width_for rows format y.name) same ∙ of)

one_width : (rows : List FieldRow) (format : Format) (given : List Given) (at a b : ℕ) → IsTooLarge rows format given at a
    → IsTooLarge rows format given at b → a ≡ b
one_width rows format given at a b (g, found, of, large) (x, there, of_x, large_x) =
    let same : g ≡ x = same_Some g x (sym found ∙ there) in
    same_Some a b (sym of ∙ ap (λ (y : Given). width_for rows format y.name) same ∙ of_x)

-- at most one fault
pub one_fault : (rows : List FieldRow) (format : Format) (given : List Given) (a b : FieldFault)
    → IsFieldFault rows format given a → IsFieldFault rows format given b → a ≡ b
one_fault rows format given (Unknown at) (Unknown other) (h, before) (k, below) =
    elim (cases_order at other) [
      | inl same ↦ ap (λ (n : ℕ). Unknown n) same
      | inr (inl less) ↦ absurd (unknown_apart rows format given at other less h below)
      | inr (inr more) ↦ absurd (unknown_apart rows format given other at more k before)
    ]
one_fault rows format given (Unknown at) (TooLarge other width) (h, before) (k, below) =
    elim (cases_order at other) [
      | inl same ↦
          let P : ℕ → Type 0 = λ n. IsUnknown rows format given n in
          absurd (unknown_or_large rows format given other width (subst P same h) k)
      | inr (inl less) ↦ absurd (unknown_apart rows format given at other less h below)
      | inr (inr more) ↦ absurd (large_apart rows format given other at width more k before)
    ]
one_fault rows format given (Unknown at) AllOnes (h, before) k =
    absurd (unknown_apart rows format given at (length given) (unknown_within rows format given at h) h k.0)
one_fault rows format given (TooLarge at width) (Unknown other) (h, before) (k, below) =
    elim (cases_order at other) [
      | inl same ↦
          let P : ℕ → Type 0 = λ n. IsTooLarge rows format given n width in
          absurd (unknown_or_large rows format given other width k (subst P same h))
      | inr (inl less) ↦ absurd (large_apart rows format given at other width less h below)
      | inr (inr more) ↦ absurd (unknown_apart rows format given other at more k before)
    ]
one_fault rows format given (TooLarge at width) (TooLarge other wide) (h, before) (k, below) =
    elim (cases_order at other) [
      | inl same ↦
          let P : ℕ → Type 0 = λ n. IsTooLarge rows format given n width in
          ap (λ (n : ℕ). TooLarge n width) same
          ∙ ap (λ (n : ℕ). TooLarge other n) (one_width rows format given other width wide (subst P same h) k)
      | inr (inl less) ↦ absurd (large_apart rows format given at other width less h below)
      | inr (inr more) ↦ absurd (large_apart rows format given other at wide more k before)
    ]
one_fault rows format given (TooLarge at width) AllOnes (h, before) k =
    absurd (large_apart rows format given at (length given) width (large_within rows format given at width h) h k.0)
one_fault rows format given AllOnes (Unknown other) h (k, below) =
    absurd (unknown_apart rows format given other (length given) (unknown_within rows format given other k) k h.0)
one_fault rows format given AllOnes (TooLarge other wide) h (k, below) =
    absurd (large_apart rows format given other (length given) wide (large_within rows format given other wide k) k h.0)
one_fault rows format given AllOnes AllOnes h k = refl

-- rows of which one may not have its value
allowed_at : (rows : List FieldRow) (format : Format) (f : FieldRow → ℕ) (k : ℕ) (d : FieldRow) → k < length rows
    → are_allowed rows format (map f rows) ≡ true
    → is_allowed (get_or rows k d).name format (get_or rows k d).width (f (get_or rows k d)) ≡ true
allowed_at [] format f k d within h = absurd (omega arith)
allowed_at (r ∷ rs) format f zero d within h =
    (and_parts (is_allowed r.name format r.width (f r)) (are_allowed rs format (map f rs)) h).0
allowed_at (r ∷ rs) format f (suc k) d within h =
    allowed_at rs format f k d (omega arith)
    (and_parts (is_allowed r.name format r.width (f r)) (are_allowed rs format (map f rs)) h).1

-- no payload where something is wrong
pub payload_or_fault : (rows : List FieldRow) (format : Format) (given : List Given) (size : ℕ) (payload : List Bool)
    (fault : FieldFault)
    → IsPayloadOf rows format given size payload → IsFieldFault rows format given fault → ⊥
payload_or_fault rows format given size payload (Unknown at) h (k, before) =
    unknown_apart rows format given at (length given) (unknown_within rows format given at k) k h.known
payload_or_fault rows format given size payload (TooLarge at width) h (k, before) =
    large_apart rows format given at (length given) width (large_within rows format given at width k) k h.known
payload_or_fault rows format given size payload AllOnes h (known, is_10, (r, (k, within, here), is_fdra, ones)) =
    let allows = (payload_parts rows format (settled rows format given) size payload h.packs).allows in
    let at : is_allowed (get_or rows k r).name format (get_or rows k r).width (settled_value format given (get_or rows k r))
    ≡ true =
    allowed_at rows format (settled_value format given) k r within allows
    in
    let P : FieldRow → Type 0 = λ x. is_allowed x.name format x.width (settled_value format given x) ≡ true in
    let Q : FieldName → Type 0 = λ name. is_allowed name format r.width (settled_value format given (row name r.width)) ≡ true in
    let R : Format → Type 0 = λ f. is_allowed names.Fdra f r.width (settled_value f given (row names.Fdra r.width)) ≡ true in
    let all : Bool = is_all_ones r.width (last_value names.Fdra given) in
    true_not_false all ones (not-true all (subst R is_10 (subst Q is_fdra (subst P here at))))

-- at most one payload
pub payload_once : (rows : List FieldRow) (format : Format) (given : List Given) (size : ℕ) (a b : List Bool)
    → IsPayloadOf rows format given size a → IsPayloadOf rows format given size b → a ≡ b
payload_once rows format given size a b h k = same_Some a b (sym h.packs ∙ k.packs)

-- the answer is a payload exactly where that is the payload
pub packed_exactly : (rows : List FieldRow) (format : Format) (given : List Given) (size : ℕ)
    (result : Result (List Bool) FieldFault)
    → IsPacked rows format given size result → (payload : List Bool) → (result ≡ Ok payload)
    ↔ IsPayloadOf rows format given size payload
packed_exactly rows format given size (Ok found) h payload = (
  (λ e. let same : found ≡ payload = cc in let P : List Bool → Type 0 = λ p. IsPayloadOf rows format given size p in subst P
      same h),
  (λ k. ap (λ (p : List Bool). Ok p) (payload_once rows format given size found payload h k)),
)
packed_exactly rows format given size (Err fault) h payload =
    ((λ e. cc), (λ k. absurd (payload_or_fault rows format given size payload fault k h)))

-- and a fault exactly where that is what is wrong first
pub fault_exactly : (rows : List FieldRow) (format : Format) (given : List Given) (size : ℕ)
    (result : Result (List Bool) FieldFault)
    → IsPacked rows format given size result → (fault : FieldFault) → (result ≡ Err fault) ↔ IsFieldFault rows format given fault
fault_exactly rows format given size (Ok found) h fault =
    ((λ e. cc), (λ k. absurd (payload_or_fault rows format given size found fault h k)))
fault_exactly rows format given size (Err found) h fault = (
  (λ e. let same : found ≡ fault = cc in let P : FieldFault → Type 0 = λ f. IsFieldFault rows format given f in subst P same h),
  (λ k. ap (λ (f : FieldFault). Err f) (one_fault rows format given found fault h k)),
)

-- a payload has the size that is asked for
pub packed_size : (rows : List FieldRow) (format : Format) (given : List Given) (size : ℕ) (payload : List Bool)
    → width_of rows ≤ size
    → IsPayloadOf rows format given size payload → length payload ≡ size
packed_size rows format given size payload within h =
    length-payload_of rows format (settled rows format given) size payload within h.packs

-- the same of an answer
pub result_size : (rows : List FieldRow) (format : Format) (given : List Given) (size : ℕ)
    (result : Result (List Bool) FieldFault) → width_of rows ≤ size
    → IsPacked rows format given size result → IfOk result (λ payload. length payload ≡ size)
result_size rows format given size (Ok payload) within h = packed_size rows format given size payload within h
result_size rows format given size (Err fault) within h = tt
