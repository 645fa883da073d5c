-- Payloads tell their format: uplink or downlink by the first bit, an order by its frequency assignment.
use Rattle.std.proofs.Common.{◌≡◌, ℕ, Bool, true, false, List, [], ◌∷◌, Some, get_or, take, drop, refl, subst, arith}
use Rattle.std.proofs.lemmas.Bool.{and_parts, eqb-true, not-true}
use Rattle.list_facts.proofs.Tests.{true_not_false}
use Rattle.bits_core.specs.Bits.{number_of}
use Rattle.dci_fields.specs.declared.formats.Format.{Format}
use Rattle.dci_fields.specs.declared.formats.Format.TheVariants.{F00, F10, Order, F01, F11}
use Rattle.dci_fields.specs.declared.names.FieldName.{FieldName}
use Rattle.dci_fields.specs.declared.rows.FieldRow.{FieldRow}
use Rattle.dci_fields.specs.Formats.{identifier_of}
use Rattle.dci_fields.specs.FieldLists.{BeginsWithIdentifier}
use Rattle.dci_fields.specs.FormatRows.{rows_after_order}
use Rattle.dci_fields.specs.FittedRows.{HasFdraSecond, order_of}
use Rattle.dci_fields.specs.Payloads.{is_all_ones, is_allowed, are_allowed, payload_of}
use Rattle.dci_fields.specs.ReadValues.{values_in}
use Rattle.dci_fields.proofs.PayloadsOfRows.{allowed_read}

-- whether a payload is of a downlink format: its first bit
abbrev pub is_downlink : Format → Bool
is_downlink F00 = false
is_downlink F10 = true
is_downlink Order = true
is_downlink F01 = false
is_downlink F11 = true

-- the first row of a payload spells the format's identifier
pub identifier_read : (rows : List FieldRow) (format : Format) (values : List ℕ) (size : ℕ) (payload : List Bool)
    → BeginsWithIdentifier rows
    → payload_of rows format values size ≡ Some payload → number_of (take 1 payload) ≡ identifier_of format
identifier_read [] format values size payload begins e = absurd begins
identifier_read (r ∷ rs) format values size payload begins e =
    let allowed =
    (and_parts (is_allowed r.name format r.width (number_of (take r.width payload)))
    (are_allowed rs format (values_in rs (drop r.width payload)))
    (allowed_read (r ∷ rs) format values size payload e)).0 in
    let P : FieldName → Type 0 = λ name. is_allowed name format r.width (number_of (take r.width payload)) ≡ true in
    let Q : ℕ → Type 0 = λ width. number_of (take width payload) ≡ identifier_of format in
    subst Q begins.1 (eqb-true (number_of (take r.width payload)) (identifier_of format) (subst P begins.0 allowed))

first_bit : (format : Format) (payload : List Bool) → number_of (take 1 payload) ≡ identifier_of format
    → get_or payload 0 false ≡ is_downlink format
first_bit F00 [] e = refl
first_bit F00 (true ∷ bits) e = absurd (omega (arith, e))
first_bit F00 (false ∷ bits) e = refl
first_bit F01 [] e = refl
first_bit F01 (true ∷ bits) e = absurd (omega (arith, e))
first_bit F01 (false ∷ bits) e = refl
first_bit F10 [] e = absurd (omega (arith, e))
first_bit F10 (true ∷ bits) e = refl
first_bit F10 (false ∷ bits) e = absurd (omega (arith, e))
first_bit Order [] e = absurd (omega (arith, e))
first_bit Order (true ∷ bits) e = refl
first_bit Order (false ∷ bits) e = absurd (omega (arith, e))
first_bit F11 [] e = absurd (omega (arith, e))
first_bit F11 (true ∷ bits) e = refl
first_bit F11 (false ∷ bits) e = absurd (omega (arith, e))

-- the first bit of a payload says whether its format is one of the downlink
pub payload_down : (rows : List FieldRow) (format : Format) (values : List ℕ) (size : ℕ) (payload : List Bool)
    → BeginsWithIdentifier rows
    → payload_of rows format values size ≡ Some payload → get_or payload 0 false ≡ is_downlink format
payload_down rows format values size payload begins e =
    first_bit format payload (identifier_read rows format values size payload begins e)

-- a payload of format 1_0 is none of an order that its list makes
pub order_apart : (rows : List FieldRow) (values others : List ℕ) (size other_size : ℕ) (payload : List Bool) → HasFdraSecond rows
    → payload_of rows F10 values size ≡ Some payload → payload_of (order_of rows) Order others other_size ≡ Some payload → ⊥
order_apart [] values others size other_size payload second e f = absurd second
order_apart (i ∷ []) values others size other_size payload second e f = absurd second
order_apart (i ∷ r ∷ rest) values others size other_size payload second e f =
    let value : ℕ = number_of (take r.width (drop i.width payload)) in
    let ten = and_parts (is_allowed i.name F10 i.width (number_of (take i.width payload)))
    (are_allowed (r ∷ rest) F10 (values_in (r ∷ rest) (drop i.width payload)))
    (allowed_read (i ∷ r ∷ rest) F10 values size payload e) in
    let ten_second = and_parts (is_allowed r.name F10 r.width value)
    (are_allowed rest F10 (values_in rest (drop r.width (drop i.width payload)))) ten.1 in
    let order = and_parts (is_allowed i.name Order i.width (number_of (take i.width payload)))
    (are_allowed (r ∷ rows_after_order) Order (values_in (r ∷ rows_after_order) (drop i.width payload)))
    (allowed_read (order_of (i ∷ r ∷ rest)) Order others other_size payload f) in
    let order_second = and_parts (is_allowed r.name Order r.width value)
    (are_allowed rows_after_order Order (values_in rows_after_order (drop r.width (drop i.width payload)))) order.1 in
    let P : FieldName → Type 0 = λ name. is_allowed name F10 r.width value ≡ true in
    let Q : FieldName → Type 0 = λ name. is_allowed name Order r.width value ≡ true in
    let all : Bool = is_all_ones r.width value in
    true_not_false all (subst Q second order_second.0) (not-true all (subst P second ten_second.0))
