-- Payloads of field values: their length, that they tell their values, and that they tell their format.
use Rattle.std.proofs.Common.{◌≡◌, ℕ, ◌+◌, ◌-◌, ◌^◌, ◌<◌, ◌≤◌, Bool, true, false, ◌&&◌, cond, nat_lt, List, [], ◌∷◌}
use Rattle.std.proofs.Common.{◌++◌, Some, None, length, take, drop, replicate, refl, ap, sym, subst, ◌∙◌, arith}
use Rattle.std.proofs.Common.{length-append, length-drop, append_assoc}
use Rattle.std.proofs.lemmas.Bool.{and_parts, and_from, lt-ltb, ltb-true}
use Rattle.std.proofs.lemmas.List.{take_at, drop_at, length-take-le, length-replicate}
use Rattle.std.proofs.lemmas.List.Sums.{sum_by-cons}
use Rattle.std.proofs.Math.Seq.{take-add}
use Rattle.bits_core.specs.Bits.{bits_of, number_of}
use Rattle.bits_core.proofs.Numbers.{length-bits_of, number_of_lt, bits_of-number_of, number_of-bits_of}
use Rattle.dci_fields.specs.declared.formats.Format.{Format}
use Rattle.dci_fields.specs.declared.rows.FieldRow.{FieldRow}
use Rattle.dci_fields.specs.declared.values.FieldValue.{FieldValue}
use Rattle.dci_fields.specs.FieldLists.{width_of}
use Rattle.dci_fields.specs.Payloads.{are_fitting, are_allowed, joined, payload_of, shown, Carries}
use Rattle.dci_fields.specs.ReadValues.{values_in}

-- values that fit, joined, have the width of their rows
pub length-joined : (rows : List FieldRow) (values : List ℕ) → are_fitting rows values ≡ true
    → length (joined rows values) ≡ width_of rows
length-joined [] values h = refl
length-joined (r ∷ rs) [] h = cc
length-joined (r ∷ rs) (v ∷ vs) h =
    let rest : length (joined rs vs)
    ≡ width_of rs = length-joined rs vs (and_parts (nat_lt v (2 ^ r.width)) (are_fitting rs vs) h).1 in
    omega (
      arith,
      length-append (bits_of r.width v) (joined rs vs),
      length-bits_of r.width v,
      rest,
      sum_by-cons
          (λ (w : FieldRow). w.width) r rs,
    )

-- joined values are read again
pub values_in-joined : (rows : List FieldRow) (values : List ℕ) (rest : List Bool) → are_fitting rows values ≡ true
    → values_in rows (joined rows values ++ rest) ≡ values
values_in-joined [] [] rest h = refl
values_in-joined [] (v ∷ vs) rest h = cc
values_in-joined (r ∷ rs) [] rest h = cc
values_in-joined (r ∷ rs) (v ∷ vs) rest h =
    let after : List Bool = joined rs vs ++ rest in
    let parts = and_parts _ _ h in
    ap (λ (bits : List Bool). number_of (take r.width bits) ∷ values_in rs (drop r.width bits))
    (append_assoc (bits_of r.width v) (joined rs vs) rest)
    ∙ ap (λ (bits : List Bool). number_of bits ∷ values_in rs (drop r.width (bits_of r.width v ++ after)))
    (take_at (bits_of r.width v) after r.width (length-bits_of r.width v))
    ∙ ap (λ (n : ℕ). n ∷ values_in rs (drop r.width (bits_of r.width v ++ after)))
    (number_of-bits_of r.width v (ltb-true v (2 ^ r.width) parts.0))
    ∙ ap (λ (bits : List Bool). v ∷ values_in rs bits) (drop_at (bits_of r.width v) after r.width (length-bits_of r.width v))
    ∙ ap (λ (others : List ℕ). v ∷ others) (values_in-joined rs vs rest parts.1)

-- what is read, joined, are the bits that were read
pub joined-values_in : (rows : List FieldRow) (bits : List Bool) → width_of rows ≤ length bits
    → joined rows (values_in rows bits) ≡ take (width_of rows) bits
joined-values_in [] bits h = refl
joined-values_in (r ∷ rs) bits h =
    let whole : width_of (r ∷ rs) ≡ r.width + width_of rs = sum_by-cons (λ (w : FieldRow). w.width) r rs in
    let first : length (take r.width bits) ≡ r.width = length-take-le r.width bits (omega arith) in
    let within : width_of rs ≤ length (drop r.width bits) = omega (arith, length-drop r.width bits) in
    ap (λ (n : ℕ). bits_of n (number_of (take r.width bits)) ++ joined rs (values_in rs (drop r.width bits))) (sym first)
    ∙ ap (λ (front : List Bool). front ++ joined rs (values_in rs (drop r.width bits))) (bits_of-number_of (take r.width bits))
    ∙ ap (λ (back : List Bool). take r.width bits ++ back) (joined-values_in rs (drop r.width bits) within)
    ∙ sym (take-add r.width (width_of rs) bits)
    ∙ ap (λ (n : ℕ). take n bits) (sym whole)

-- what is read fits
pub fitting_values_in : (rows : List FieldRow) (bits : List Bool) → width_of rows ≤ length bits
    → are_fitting rows (values_in rows bits) ≡ true
fitting_values_in [] bits h = refl
fitting_values_in (r ∷ rs) bits h =
    let whole : width_of (r ∷ rs) ≡ r.width + width_of rs = sum_by-cons (λ (w : FieldRow). w.width) r rs in
    let within : width_of rs ≤ length (drop r.width bits) = omega (arith, length-drop r.width bits) in
    let small : number_of (take r.width bits) < 2 ^ r.width =
    let P : ℕ → Type 0 = λ n. number_of (take r.width bits) < 2 ^ n in
    subst P (length-take-le r.width bits (omega arith)) (number_of_lt (take r.width bits))
    in
    and_from _ _ (lt-ltb (number_of (take r.width bits)) (2 ^ r.width) small) (fitting_values_in rs (drop r.width bits) within)

-- the parts of being a payload
pub record IsPayload (rows : List FieldRow) (format : Format) (values : List ℕ) (size : ℕ) (payload : List Bool) : Type 0 where
  pub fits : are_fitting rows values ≡ true
  pub allows : are_allowed rows format values ≡ true
  pub is : joined rows values ++ replicate (size - width_of rows) false ≡ payload

chosen : (a b : Bool) (x y : List Bool) → cond (a && b) (Some x) None ≡ Some y → (a ≡ true) × (b ≡ true) × (x ≡ y)
chosen true true x y e = (refl, refl, cc)
chosen true false x y e = cc
chosen false b x y e = cc

-- a payload has these parts
pub payload_parts : (rows : List FieldRow) (format : Format) (values : List ℕ) (size : ℕ) (payload : List Bool)
    → payload_of rows format values size ≡ Some payload → IsPayload rows format values size payload
unfolding payload_of
payload_parts rows format values size payload e =
    let parts = chosen (are_fitting rows values) (are_allowed rows format values)
    (joined rows values ++ replicate (size - width_of rows) false) payload e in
    record { fits = parts.0; allows = parts.1; is = parts.2 }

-- and what has them is the payload
pub payload_from : (rows : List FieldRow) (format : Format) (values : List ℕ) (size : ℕ) (payload : List Bool)
    → IsPayload rows format values size payload → payload_of rows format values size ≡ Some payload
unfolding payload_of
payload_from rows format values size payload h =
    ap (λ (b : Bool). cond b (Some (joined rows values ++ replicate (size - width_of rows) false)) None)
    (and_from _ _ h.fits h.allows)
    ∙ ap (λ (bits : List Bool). Some bits) h.is

-- a payload has the size that is asked for
pub length-payload_of : (rows : List FieldRow) (format : Format) (values : List ℕ) (size : ℕ) (payload : List Bool)
    → width_of rows ≤ size
    → payload_of rows format values size ≡ Some payload → length payload ≡ size
length-payload_of rows format values size payload h e =
    let parts = payload_parts rows format values size payload e in
    let zeros : List Bool = replicate (size - width_of rows) false in
    omega (
      arith,
      ap length parts.is,
      length-append (joined rows values) zeros,
      length-joined rows values parts.fits,
      length-replicate (size - width_of rows) false,
    )

-- a payload tells its values
pub values_read : (rows : List FieldRow) (format : Format) (values : List ℕ) (size : ℕ) (payload : List Bool)
    → payload_of rows format values size ≡ Some payload → values_in rows payload ≡ values
values_read rows format values size payload e =
    let parts = payload_parts rows format values size payload e in
    ap (values_in rows) (sym parts.is) ∙ values_in-joined rows values (replicate (size - width_of rows) false) parts.fits

-- at most one list of values has a payload
pub values_once : (rows : List FieldRow) (format other_format : Format) (values others : List ℕ) (size other_size : ℕ)
    (payload : List Bool)
    → payload_of rows format values size ≡ Some payload → payload_of rows other_format others other_size ≡ Some payload
    → values ≡ others
values_once rows format other_format values others size other_size payload e f =
    sym (values_read rows format values size payload e) ∙ values_read rows other_format others other_size payload f

-- a payload carries at most one list of shown values
pub carried_once : (rows : List FieldRow) (format : Format) (size other_size : ℕ) (payload : List Bool)
    (fields others : List FieldValue)
    → Carries rows format size payload fields → Carries rows format other_size payload others → fields ≡ others
carried_once rows format size other_size payload fields others h k =
    sym h.shows ∙ ap (shown rows format)
    (values_once rows format format h.values k.values size other_size payload h.packs k.packs) ∙ k.shows

-- the format allows what its payload tells
pub allowed_read : (rows : List FieldRow) (format : Format) (values : List ℕ) (size : ℕ) (payload : List Bool)
    → payload_of rows format values size ≡ Some payload → are_allowed rows format (values_in rows payload) ≡ true
allowed_read rows format values size payload e =
    ap (are_allowed rows format) (values_read rows format values size payload e)
    ∙ (payload_parts rows format values size payload e).allows
