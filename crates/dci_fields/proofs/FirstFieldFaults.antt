-- The function that finds the first fault of field values that are asked for.
use Rattle.std.proofs.Common.{◌≡◌, ℕ, zero, suc, ◌+◌, ◌^◌, ◌<◌, Bool, true, false, nat_lt, cond, List, Option, Some}
use Rattle.std.proofs.Common.{None, length, get_or, drop, refl, ap, sym, subst, arith}
use Rattle.std.specs.List.{list_any, Contains}
use Rattle.std.specs.Option.{option_or}
use Rattle.std.proofs.lemmas.Bool.{and_parts, and_from, ltb-true, ltb-false}
use Rattle.std.proofs.lemmas.List.{drop_more, drop_all}
use Rattle.std.proofs.lemmas.List.Folds.{Any-from_list_any, list_any_at}
use Rattle.std.proofs.lemmas.Option.{slice_get-get_or, none-some, same_Some}
use Rattle.dci_fields.specs.declared.formats.Format.{Format}
use Rattle.dci_fields.specs.declared.formats.Format.TheVariants.{F00, F10, Order, F01, F11}
use Rattle.dci_fields.specs.declared.names.FieldName.TheVariants as names
use Rattle.dci_fields.specs.declared.rows.FieldRow.{FieldRow}
use Rattle.dci_fields.specs.declared.fault.Given.{Given}
use Rattle.dci_fields.specs.declared.fault.FieldFault.{FieldFault}
use Rattle.dci_fields.specs.declared.fault.FieldFault.TheVariants.{Unknown, TooLarge, AllOnes}
use Rattle.dci_fields.specs.SameNames.{same_name}
use Rattle.dci_fields.specs.Payloads.{is_all_ones}
use Rattle.dci_fields.specs.GivenValues.{last_value, width_for, AreKnownBelow, AreKnown, IsFieldFault, IsPayloadOf}
use Rattle.dci_fields.specs.FirstFieldFault.{fault_by, fault_from, is_all_ones_fdra, asks_for_order, field_fault, FindsFieldFault}
use Rattle.dci_fields.proofs.GivenLists.{known_more}
use Rattle.dci_fields.proofs.RowLists.{named_same, same_named}
use Rattle.dci_fields.proofs.PackingOutcomes.{unknown_apart, large_apart, unknown_within, large_within, one_fault}
use Rattle.dci_fields.proofs.PackingOutcomes.{payload_or_fault}

-- what is found among the values: a fault, or that all are known
abbrev IsFound : List FieldRow → Format → List Given → Option FieldFault → Type 0
IsFound rows format given None = AreKnown rows format given
IsFound rows format given (Some fault) = IsFieldFault rows format given fault

-- by the test of the width of the value at place n
found_by_test : (rows : List FieldRow) (format : Format) (given : List Given) (n : ℕ) (d : Given) (width : ℕ)
    (rest : Option FieldFault) (fits : Bool)
    → n < length given → AreKnownBelow rows format given n → width_for rows format (get_or given n d).name ≡ Some width
    → nat_lt (get_or given n d).value (2 ^ width) ≡ fits
    → (AreKnownBelow rows format given (n + 1) → IsFound rows format given rest)
    → IsFound rows format given (option_or (cond fits None (Some (TooLarge n width))) rest)
found_by_test rows format given n d width rest true h known of e next =
    next (known_more rows format given n d width h known of (ltb-true (get_or given n d).value (2 ^ width) e))
found_by_test rows format given n d width rest false h known of e next =
    ((get_or given n d, slice_get-get_or given n d h, of, ltb-false (get_or given n d).value (2 ^ width) e), known)

found_by : (rows : List FieldRow) (format : Format) (given : List Given) (n : ℕ) (d : Given) (width : Option ℕ)
    (rest : Option FieldFault)
    → n < length given → AreKnownBelow rows format given n → width_for rows format (get_or given n d).name ≡ width
    → (AreKnownBelow rows format given (n + 1) → IsFound rows format given rest)
    → IsFound rows format given (option_or (fault_by n (get_or given n d).value width) rest)
found_by rows format given n d None rest h known of next = ((get_or given n d, slice_get-get_or given n d h, of), known)
found_by rows format given n d (Some width) rest h known of next =
    found_by_test rows format given n d width rest (nat_lt (get_or given n d).value (2 ^ width)) h known of refl next

-- what is found from place n on, where the values before it are known
found_from : (rows : List FieldRow) (format : Format) (given : List Given) (count n : ℕ) → n + count ≡ length given
    → AreKnownBelow rows format given n
    → IsFound rows format given (fault_from rows format n (drop n given))
found_from rows format given zero n e known =
    let P : List Given → Type 0 = λ xs. IsFound rows format given (fault_from rows format n xs) in
    let Q : ℕ → Type 0 = λ k. AreKnownBelow rows format given k in
    subst P (sym (drop_all n given (omega (arith, e)))) (subst Q (omega (arith, e)) known)
found_from rows format given (suc count) n e known =
    let d : Given = record { name = None; value = 0 } in
    let h : n < length given = omega (arith, e) in
    let P : List Given → Type 0 = λ xs. IsFound rows format given (fault_from rows format n xs) in
    subst P (sym (drop_more given n d h))
    (found_by rows format given n d (width_for rows format (get_or given n d).name)
    (fault_from rows format (n + 1) (drop (n + 1) given)) h known refl
    (λ more. found_from rows format given count (n + 1) (omega (arith, e)) more))

none_from : (found : Option FieldFault) → ((fault : FieldFault) → found ≡ Some fault → ⊥) → found ≡ None
none_from None h = refl
none_from (Some fault) h = absurd (h fault refl)

none_known : (rows : List FieldRow) (format : Format) (given : List Given) → AreKnownBelow rows format given 0
none_known rows format given at g h found = absurd (omega (arith, h))

-- rows of which one is a frequency assignment that is all ones
abbrev HasOnes : List FieldRow → List Given → Type 0
HasOnes rows given =
    (r : FieldRow) × Contains rows r × (r.name ≡ names.Fdra) × (is_all_ones r.width (last_value names.Fdra given) ≡ true)

ones_of_row : (given : List Given) (r : FieldRow) → is_all_ones_fdra given r ≡ true
    → (r.name ≡ names.Fdra) × (is_all_ones r.width (last_value names.Fdra given) ≡ true)
ones_of_row given r e =
    let parts = and_parts (same_name r.name names.Fdra) (is_all_ones r.width (last_value names.Fdra given)) e in
    (named_same r.name names.Fdra parts.0, parts.1)

-- the test of it
ones_from : (rows : List FieldRow) (given : List Given) → list_any (is_all_ones_fdra given) rows ≡ true → HasOnes rows given
ones_from rows given e =
    let (k, r, within, here, ones) = Any-from_list_any (is_all_ones_fdra given) rows e in
    let parts = ones_of_row given r ones in
    (r, (k, within, here), parts.0, parts.1)

ones_to : (rows : List FieldRow) (given : List Given) → HasOnes rows given → list_any (is_all_ones_fdra given) rows ≡ true
ones_to rows given (r, (k, within, here), is_fdra, ones) =
    let P : FieldRow → Type 0 = λ x. is_all_ones_fdra given x ≡ true in
    list_any_at (is_all_ones_fdra given) rows k r within
    (subst P (sym here) (and_from (same_name r.name names.Fdra) (is_all_ones r.width (last_value names.Fdra given))
    (same_named r.name names.Fdra is_fdra) ones))

-- the test says whether format 1_0 would be an order
abbrev AsksForOrder : List FieldRow → Format → List Given → Type 0
AsksForOrder rows format given = (format ≡ F10) × HasOnes rows given

asks_from : (rows : List FieldRow) (format : Format) (given : List Given) → asks_for_order rows format given ≡ true
    → AsksForOrder rows format given
asks_from rows F00 given e = cc
asks_from rows F10 given e = (refl, ones_from rows given e)
asks_from rows Order given e = cc
asks_from rows F01 given e = cc
asks_from rows F11 given e = cc

asks_to : (rows : List FieldRow) (format : Format) (given : List Given) → AsksForOrder rows format given
    → asks_for_order rows format given ≡ true
asks_to rows F00 given (e, ones) = cc
asks_to rows F10 given (e, ones) = ones_to rows given ones
asks_to rows Order given (e, ones) = cc
asks_to rows F01 given (e, ones) = cc
asks_to rows F11 given (e, ones) = cc

-- by what was found among the values, and by the test
fault_to : (rows : List FieldRow) (format : Format) (given : List Given) (found : Option FieldFault) (asks : Bool)
    (fault : FieldFault)
    → IsFound rows format given found → (asks ≡ true → AsksForOrder rows format given)
    → option_or found (cond asks (Some AllOnes) None) ≡ Some fault → IsFieldFault rows format given fault
fault_to rows format given (Some first) asks fault h order e =
    let P : FieldFault → Type 0 = λ f. IsFieldFault rows format given f in
    subst P (same_Some first fault e) h
fault_to rows format given None true fault h order e =
    let P : FieldFault → Type 0 = λ f. IsFieldFault rows format given f in
    let asked = order refl in
    subst P (same_Some AllOnes fault e) (h, asked.0, asked.1)
fault_to rows format given None false fault h order e = absurd (none-some fault e)

-- where all values are known, the only fault is an order
known_fault : (rows : List FieldRow) (format : Format) (given : List Given) (fault : FieldFault) → AreKnown rows format given
    → IsFieldFault rows format given fault → (fault ≡ AllOnes) × AsksForOrder rows format given
known_fault rows format given (Unknown at) known h =
    absurd (unknown_apart rows format given at (length given) (unknown_within rows format given at h.0) h.0 known)
known_fault rows format given (TooLarge at width) known h =
    absurd (large_apart rows format given at (length given) width (large_within rows format given at width h.0) h.0 known)
known_fault rows format given AllOnes known (all, format_is, ones) = (refl, (format_is, ones))

fault_back : (rows : List FieldRow) (format : Format) (given : List Given) (found : Option FieldFault) (asks : Bool)
    (fault : FieldFault)
    → IsFound rows format given found → (AsksForOrder rows format given → asks ≡ true)
    → IsFieldFault rows format given fault → option_or found (cond asks (Some AllOnes) None) ≡ Some fault
fault_back rows format given (Some first) asks fault h order k =
    ap (λ (f : FieldFault). Some f) (one_fault rows format given first fault h k)
fault_back rows format given None true fault h order k =
    ap (λ (f : FieldFault). Some f) (sym (known_fault rows format given fault h k).0)
fault_back rows format given None false fault h order k =
    let never : false ≡ true = order (known_fault rows format given fault h k).1 in absurd (let f : ⊥ = cc in f)

-- the function finds what is wrong first
pub finds_field_fault : FindsFieldFault
unfolding field_fault
finds_field_fault rows format given fault =
    let found : IsFound rows format given (fault_from rows format 0 given) = found_from rows format given (length given) 0
    (omega arith) (none_known rows format given) in
    let asks = asks_for_order rows format given in (
      (λ e. fault_to rows format given (fault_from rows format 0 given) asks fault found (asks_from rows format given) e),
      (λ k. fault_back rows format given (fault_from rows format 0 given) asks fault found (asks_to rows format given) k),
    )

-- and finds nothing exactly where the values have a payload
pub none_where_packed : (rows : List FieldRow) (format : Format) (given : List Given) (size : ℕ) (payload : List Bool)
    → IsPayloadOf rows format given size payload → field_fault rows format given ≡ None
none_where_packed rows format given size payload h =
    none_from (field_fault rows format given)
    (λ fault e. payload_or_fault rows format given size payload fault h ((finds_field_fault rows format given fault).0 e))
