-- Rows are read one after another.
use Rattle.std.proofs.Common.{◌≡◌, ℕ, ◌+◌, ◌-◌, ◌<◌, ◌≤◌, Bool, true, false, ◌&&◌, ◌||◌, cond, nat_eq, List, [], ◌∷◌}
use Rattle.std.proofs.Common.{◌++◌, length, take, drop, slice_range, get_or, ap, sym, subst, ◌∙◌, arith, length-append}
use Rattle.std.proofs.Common.{append_assoc}
use Rattle.std.proofs.lemmas.List.{drop-drop, drop_more}
use Rattle.std.proofs.lemmas.List.Sums.{sum_by-cons}
use Rattle.bits_core.specs.Bits.{number_of}
use Rattle.dci_fields.specs.declared.formats.Format.{Format}
use Rattle.dci_fields.specs.declared.rows.FieldRow.{FieldRow}
use Rattle.dci_fields.specs.declared.values.FieldValue.{FieldValue}
use Rattle.dci_fields.specs.FieldLists.{width_of}
use Rattle.dci_fields.specs.Payloads.{is_allowed, are_allowed, is_fixed, shown_of, shown}
use Rattle.dci_fields.specs.ReadValues.{values_in}
use Rattle.dci_fields.specs.FieldLists.{AreNarrow}

-- the rows that are left begin at place `place`, and with what is shown so far they tell all
pub record IsReading (rows : List FieldRow) (format : Format) (payload : List Bool) (left : List FieldRow) (place : ℕ)
    (fields : List FieldValue) : Type 0 where
  pub few : length fields + length left ≤ length rows
  pub narrow : AreNarrow left
  pub room : place + width_of left ≡ width_of rows
  pub allows : are_allowed left format (values_in left (drop place payload)) ≡ are_allowed rows format (values_in rows payload)
  pub shows : fields ++ shown left format (values_in left (drop place payload)) ≡ shown rows format (values_in rows payload)

-- the next row ends within the rows
pub row_within : (rows : List FieldRow) (format : Format) (payload : List Bool) (at place : ℕ) (fields : List FieldValue)
    (d : FieldRow)
    → IsReading rows format payload (drop at rows) place fields → at < length rows
    → place + (get_or rows at d).width ≤ width_of rows
row_within rows format payload at place fields d h below =
    omega (
      arith,
      h.room,
      ap width_of (drop_more rows at d below),
      sum_by-cons (λ (r : FieldRow). r.width)
          (get_or rows at d) (drop (at + 1) rows),
    )

at_most_one : (b : Bool) (field : FieldValue) → length (cond b [] (field ∷ [])) ≤ 1
at_most_one true field = omega arith
at_most_one false field = omega arith

length-shown_of : (format : Format) (r : FieldRow) (value : ℕ) → length (shown_of format r value) ≤ 1
length-shown_of format r value =
    let field : FieldValue = record { name = r.name; value = value } in
    at_most_one (nat_eq r.width 0 || is_fixed r.name format) field

and_first : (a b c : Bool) → a ≡ true → (a && b) ≡ c → b ≡ c
and_first true b c h e = e
and_first false b c h e = cc

-- a row is read
one_row : (rows : List FieldRow) (format : Format) (payload : List Bool) (r : FieldRow) (left : List FieldRow) (place : ℕ)
    (fields : List FieldValue) (value : ℕ)
    → IsReading rows format payload (r ∷ left) place fields → value ≡ number_of (take r.width (drop place payload))
    → is_allowed r.name format r.width value ≡ true
    → IsReading rows format payload left (place + r.width) (fields ++ shown_of format r value)
one_row rows format payload r left place fields value h read allowed =
    let rest : drop r.width (drop place payload) ≡ drop (place + r.width) payload = drop-drop r.width place payload in
    record {
      few = omega (arith, h.few, length-append fields (shown_of format r value), length-shown_of format r value);
      narrow = h.narrow.1;
      room = omega (arith, h.room, sum_by-cons (λ (w : FieldRow). w.width) r left);
      allows =
          ap (λ (bits : List Bool). are_allowed left format (values_in left bits)) (sym rest)
          ∙ and_first (is_allowed r.name format r.width (number_of (take r.width (drop place payload))))
          (are_allowed left format (values_in left (drop r.width (drop place payload))))
          (are_allowed rows format (values_in rows payload))
          (ap (λ (v : ℕ). is_allowed r.name format r.width v) (sym read) ∙ allowed) h.allows;
      shows =
          append_assoc fields (shown_of format r value) (shown left format (values_in left (drop (place + r.width) payload)))
          ∙ ap (λ (v : ℕ). fields ++ (shown_of format r v
          ++ shown left format (values_in left (drop (place + r.width) payload)))) read
          ∙ ap (λ (bits : List Bool). fields
          ++ (shown_of format r (number_of (take r.width (drop place payload)))
          ++ shown left format (values_in left bits))) (sym rest)
          ∙ h.shows;
    }

taken : (payload : List Bool) (place width : ℕ) → slice_range payload place (place + width) ≡ take width (drop place payload)
taken payload place width = let e : place + width - place ≡ width = omega arith in ap (λ (n : ℕ). take n (drop place payload)) e

-- one more row is read
pub one_row_more : (rows : List FieldRow) (format : Format) (payload : List Bool) (at place : ℕ)
    (fields more : List FieldValue) (d : FieldRow) (value : ℕ)
    → IsReading rows format payload (drop at rows) place fields → at < length rows
    → value ≡ number_of (slice_range payload place (place + (get_or rows at d).width))
    → is_allowed (get_or rows at d).name format (get_or rows at d).width value ≡ true
    → more ≡ fields ++ shown_of format (get_or rows at d) value
    → IsReading rows format payload (drop (at + 1) rows) (place + (get_or rows at d).width) more
one_row_more rows format payload at place fields more d value h below read allowed e =
    let P : List FieldRow → Type 0 = λ left. IsReading rows format payload left place fields in
    let Q : List FieldValue → Type 0 = λ shows. IsReading rows format payload (drop (at + 1) rows)
    (place + (get_or rows at d).width) shows in
    subst Q (sym e)
    (one_row rows format payload (get_or rows at d) (drop (at + 1) rows) place fields value
    (subst P (drop_more rows at d below) h)
    (read ∙ ap number_of (taken payload place (get_or rows at d).width)) allowed)
