-- Rows are packed one after another.
use Rattle.std.proofs.Common.{◌≡◌, ℕ, suc, ◌+◌, ◌-◌, ◌^◌, ◌<◌, ◌≤◌, Bool, true, false, inl, inr, List, [], ◌∷◌, ◌++◌}
use Rattle.std.proofs.Common.{length, map, get_or, drop, replicate, refl, ap, sym, subst, ◌∙◌, arith, length-append}
use Rattle.std.proofs.Common.{append_assoc, append-nil}
use Rattle.std.proofs.Math.Nat.{pow-le-pow_right}
use Rattle.std.proofs.lemmas.Bool.{and_from, cases_order}
use Rattle.std.proofs.lemmas.List.{drop_more, drop_all, get_or_default}
use Rattle.bits_core.specs.Bits.{bits_of}
use Rattle.bits_core.proofs.Numbers.{length-bits_of}
use Rattle.dci_fields.specs.declared.formats.Format.{Format}
use Rattle.dci_fields.specs.declared.rows.FieldRow.{FieldRow}
use Rattle.dci_fields.specs.declared.fault.Given.{Given}
use Rattle.dci_fields.specs.FieldLists.{width_of, IsFieldList}
use Rattle.dci_fields.specs.Payloads.{is_allowed, are_allowed, joined}
use Rattle.dci_fields.specs.GivenValues.{settled_value, settled, AreKnown, IsPayloadOf}
use Rattle.dci_fields.proofs.RowLists.{width_of_cons}
use Rattle.dci_fields.proofs.GivenLists.{narrow_at, settled_value-fits, settled-fits}
use Rattle.dci_fields.proofs.PayloadsOfRows.{payload_from}

-- the payload so far, with the rows that are left, is that of all rows, and the format allows the rows so far their values
pub record IsPacking (rows : List FieldRow) (format : Format) (given : List Given) (at : ℕ) (payload : List Bool) : Type 0 where
  pub room : length payload + width_of (drop at rows) ≡ width_of rows
  pub joins : payload ++ joined (drop at rows) (settled (drop at rows) format given) ≡ joined rows (settled rows format given)
  pub allows : (k : ℕ) (d : FieldRow) → k < at
      → is_allowed (get_or rows k d).name format (get_or rows k d).width (settled_value format given (get_or rows k d)) ≡ true

-- one more row is packed
pub one_more_packed : (rows : List FieldRow) (format : Format) (given : List Given) (at : ℕ) (payload more : List Bool)
    (d : FieldRow)
    → at < length rows → IsPacking rows format given at payload
    → is_allowed (get_or rows at d).name format (get_or rows at d).width (settled_value format given (get_or rows at d)) ≡ true
    → more ≡ payload ++ bits_of (get_or rows at d).width (settled_value format given (get_or rows at d))
    → IsPacking rows format given (at + 1) more
one_more_packed rows format given at payload more d below h allowed is =
    let r : FieldRow = get_or rows at d in
    let left : List FieldRow = drop (at + 1) rows in
    let bits : List Bool = bits_of r.width (settled_value format given r) in
    let split : drop at rows ≡ r ∷ left = drop_more rows at d below in
    record {
      room =
          omega (
            arith,
            h.room,
            ap width_of split,
            width_of_cons r left,
            ap length is,
            length-append payload bits,
            length-bits_of r.width (settled_value format given r),
          );
      joins =
          ap (λ (xs : List Bool). xs ++ joined left (settled left format given)) is
          ∙ append_assoc payload bits (joined left (settled left format given))
          ∙ ap (λ (xs : List FieldRow). payload ++ joined xs (settled xs format given)) (sym split)
          ∙ h.joins;
      allows = λ k e less. elim (cases_order k at) [
        | inl same ↦
            let P : FieldRow → Type 0 = λ x. is_allowed x.name format x.width (settled_value format given x) ≡ true in
            subst P (get_or_default rows at d e below ∙ ap (λ (n : ℕ). get_or rows n e) (sym same)) allowed
        | inr (inl before) ↦ h.allows k e before
        | inr (inr after) ↦ absurd (omega (arith, less, after))
      ];
    }

-- the next row fits
pub next_within : (rows : List FieldRow) (format : Format) (given : List Given) (at : ℕ) (payload : List Bool) (d : FieldRow)
    → at < length rows → IsPacking rows format given at payload → length payload + (get_or rows at d).width ≤ width_of rows
next_within rows format given at payload d below h =
    omega (arith, h.room, ap width_of (drop_more rows at d below), width_of_cons (get_or rows at d) (drop (at + 1) rows))

-- values that are allowed row by row are allowed
allowed_all : (rows : List FieldRow) (format : Format) (f : FieldRow → ℕ)
    → ((k : ℕ) (d : FieldRow) → k < length rows
    → is_allowed (get_or rows k d).name format (get_or rows k d).width (f (get_or rows k d)) ≡ true)
    → are_allowed rows format (map f rows) ≡ true
allowed_all [] format f h = refl
allowed_all (r ∷ rs) format f h =
    and_from (is_allowed r.name format r.width (f r)) (are_allowed rs format (map f rs)) (h 0 r (omega arith))
    (allowed_all rs format f (λ k d within. h (suc k) d (omega arith)))

-- all rows are packed, and zeros follow
pub packed_whole : (rows : List FieldRow) (format : Format) (given : List Given) (at size : ℕ) (payload whole : List Bool)
    → IsFieldList rows → AreKnown rows format given → length rows ≤ at → at ≤ length rows → IsPacking rows format given at payload
    → whole ≡ payload ++ replicate (size - length payload) false → IsPayloadOf rows format given size whole
packed_whole rows format given at size payload whole list known over within h is =
    let none : drop at rows ≡ [] = drop_all at rows over in
    let wide : length payload ≡ width_of rows = omega (arith, h.room, ap width_of none) in
    let alone : payload ≡ joined rows (settled rows format given) =
    sym (append-nil payload) ∙ ap (λ (xs : List FieldRow). payload ++ joined xs (settled xs format given)) (sym none) ∙ h.joins
    in
    record {
      known = known;
      packs = payload_from rows format (settled rows format given) size whole
          (record {
            fits = settled-fits rows format given list known;
            allows = allowed_all rows format (settled_value format given) (λ k d below. h.allows k d (omega arith));
            is =
                ap (λ (bits : List Bool). bits ++ replicate (size - width_of rows) false) (sym alone)
                ∙ ap (λ (n : ℕ). payload ++ replicate (size - n) false) (sym wide)
                ∙ sym is;
          });
    }

-- a settled value of known ones is a number of 32 bits
pub settled_value_lt : (rows : List FieldRow) (format : Format) (given : List Given) (k : ℕ) (d : FieldRow)
    → IsFieldList rows → k < length rows
    → AreKnown rows format given → settled_value format given (get_or rows k d) < 2 ^ 32
settled_value_lt rows format given k d h within known =
    let two : 0 < 2 = omega arith in
    let below : 2 ^ (get_or rows k d).width ≤ 2 ^ 32 = pow-le-pow_right two (narrow_at rows k d h.narrow within) in
    omega (arith, settled_value-fits rows format given k d h within known, below)
