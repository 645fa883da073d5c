-- What a payload carries is what is read from it, where the format allows it and zeros follow.
use Rattle.std.proofs.Common.{◌≡◌, ◌↔◌, ℕ, zero, suc, ◌-◌, ◌≤◌, Bool, true, false, not, List, [], ◌∷◌, ◌++◌, Some, None}
use Rattle.std.proofs.Common.{length, take, drop, replicate, refl, ap, sym, ◌∙◌, length-drop}
use Rattle.std.specs.List.{list_all}
use Rattle.std.proofs.lemmas.List.{take-append-drop, drop_at}
use Rattle.std.proofs.lemmas.Option.{same_Some}
use Rattle.list_facts.proofs.Tests.{true_not_false}
use Rattle.dci_fields.specs.declared.formats.Format.{Format}
use Rattle.dci_fields.specs.declared.rows.FieldRow.{FieldRow}
use Rattle.dci_fields.specs.declared.values.FieldValue.{FieldValue}
use Rattle.dci_fields.specs.FieldLists.{width_of}
use Rattle.dci_fields.specs.Payloads.{are_allowed, joined, payload_of, shown, Carries}
use Rattle.dci_fields.specs.ReadValues.{values_in}
use Rattle.dci_fields.proofs.PayloadsOfRows.{joined-values_in, fitting_values_in, length-joined, payload_parts}
use Rattle.dci_fields.proofs.PayloadsOfRows.{payload_from, values_read, allowed_read}

-- bits of which none is 1 are zeros
zeros : (bits : List Bool) → list_all not bits ≡ true → bits ≡ replicate (length bits) false
zeros [] h = refl
zeros (true ∷ bits) h = cc
zeros (false ∷ bits) h = ap (λ (rest : List Bool). false ∷ rest) (zeros bits h)

all_zeros : (n : ℕ) → list_all not (replicate n false) ≡ true
all_zeros zero = refl
all_zeros (suc n) = all_zeros n

-- a payload ends in zeros
padded : (rows : List FieldRow) (format : Format) (values : List ℕ) (size : ℕ) (payload : List Bool)
    → payload_of rows format values size ≡ Some payload → list_all not (drop (width_of rows) payload) ≡ true
padded rows format values size payload e =
    let parts = payload_parts rows format values size payload e in
    ap (λ (bits : List Bool). list_all not (drop (width_of rows) bits)) (sym parts.is)
    ∙ ap (list_all not) (drop_at (joined rows values) (replicate (size - width_of rows) false) (width_of rows)
    (length-joined rows values parts.fits))
    ∙ all_zeros (size - width_of rows)

-- what is read has the payload
packs : (rows : List FieldRow) (format : Format) (payload : List Bool) → width_of rows ≤ length payload
    → are_allowed rows format (values_in rows payload) ≡ true → list_all not (drop (width_of rows) payload) ≡ true
    → payload_of rows format (values_in rows payload) (length payload) ≡ Some payload
packs rows format payload within allowed padding =
    let left : length (drop (width_of rows) payload) ≡ length payload - width_of rows = length-drop (width_of rows) payload in
    payload_from rows format (values_in rows payload) (length payload) payload
    (record {
      fits = fitting_values_in rows payload within;
      allows = allowed;
      is =
          ap (λ (bits : List Bool). bits ++ replicate (length payload - width_of rows) false)
          (joined-values_in rows payload within)
          ∙ ap (λ (n : ℕ). take (width_of rows) payload ++ replicate n false) (sym left)
          ∙ ap (λ (bits : List Bool). take (width_of rows) payload ++ bits) (sym (zeros (drop (width_of rows) payload) padding))
          ∙ take-append-drop (width_of rows) payload;
    })

-- what is shown of it is what the payload carries
pub carried : (rows : List FieldRow) (format : Format) (payload : List Bool) (found : List FieldValue)
    → width_of rows ≤ length payload
    → are_allowed rows format (values_in rows payload) ≡ true → found ≡ shown rows format (values_in rows payload)
    → list_all not (drop (width_of rows) payload) ≡ true
    → (fields : List FieldValue) → (Some found ≡ Some fields) ↔ Carries rows format (length payload) payload fields
carried rows format payload found within allowed is padding fields = (
  (λ e. record {
    values = values_in rows payload;
    packs = packs rows format payload within allowed padding;
    shows = sym is ∙ same_Some found fields e;
  }),
  (λ h. ap (λ (list : List FieldValue). Some list)
      (is ∙ ap (shown rows format) (values_read rows format h.values (length payload) payload h.packs) ∙ h.shows)),
)

-- a payload carries nothing where the format does not allow what is read
pub not_allowed : (rows : List FieldRow) (format : Format) (payload : List Bool)
    → are_allowed rows format (values_in rows payload) ≡ false
    → (fields : List FieldValue) → (None ≡ Some fields) ↔ Carries rows format (length payload) payload fields
not_allowed rows format payload refused fields = (
  (λ e. cc),
  (λ h. absurd (true_not_false (are_allowed rows format (values_in rows payload))
      (allowed_read rows format h.values (length payload) payload h.packs) refused)),
)

-- it carries nothing where no zeros follow
pub not_padded : (rows : List FieldRow) (format : Format) (payload : List Bool)
    → list_all not (drop (width_of rows) payload) ≡ false
    → (fields : List FieldValue) → (None ≡ Some fields) ↔ Carries rows format (length payload) payload fields
not_padded rows format payload other fields = (
  (λ e. cc),
  (λ h. absurd (true_not_false (list_all not (drop (width_of rows) payload))
      (padded rows format h.values (length payload) payload h.packs) other)),
)
