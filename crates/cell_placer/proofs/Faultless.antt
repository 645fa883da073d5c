-- Field values of which none is wrong have a payload.
use Rattle.std.proofs.Common.{◌≡◌, ℕ, zero, suc, ◌+◌, ◌-◌, ◌^◌, ◌<◌, ◌≤◌, Bool, true, false, not, ◌||◌, nat_lt, cond}
use Rattle.std.proofs.Common.{List, [], ◌∷◌, ◌++◌, Option, Some, None, is_some, unwrap_or, map, replicate, refl}
use Rattle.std.proofs.Common.{ap, sym, subst, ◌∙◌, arith}
use Rattle.std.specs.Prelude.{slice_get}
use Rattle.std.specs.List.{list_any}
use Rattle.std.specs.Option.{option_or}
use Rattle.std.proofs.lemmas.Bool.{and_parts, and_from, or_parts, ltb-true, lt-ltb, eq-eqb}
use Rattle.std.proofs.lemmas.Nat.{pow_pos}
use Rattle.dci_fields.specs.declared.fault.Given.{Given}
use Rattle.dci_fields.specs.declared.fault.FieldFault.{FieldFault}
use Rattle.dci_fields.specs.declared.fault.FieldFault.TheVariants.{TooLarge, AllOnes}
use Rattle.dci_fields.specs.declared.formats.Format.{Format}
use Rattle.dci_fields.specs.declared.formats.Format.TheVariants.{F00, F10, Order, F01, F11}
use Rattle.dci_fields.specs.declared.names.FieldName.{FieldName}
use Rattle.dci_fields.specs.declared.names.FieldName.TheVariants as names
use Rattle.dci_fields.specs.declared.rows.FieldRow.{FieldRow}
use Rattle.dci_fields.specs.FieldLists.{width_of, IsFieldList}
use Rattle.dci_fields.specs.Payloads.{is_all_ones, is_allowed, are_allowed, joined, payload_of}
use Rattle.dci_fields.specs.GivenValues.{settled_value, settled, width_for, AreKnown}
use Rattle.dci_fields.specs.FirstFieldFault.{fault_by, fault_from, is_all_ones_fdra, asks_for_order, field_fault}
use Rattle.dci_fields.specs.FittedRows.{order_of, HasRoomForOrder}
use Rattle.dci_fields.specs.FormatRows.{row, rows_after_order}
use Rattle.dci_fields.proofs.GivenLists.{settled-fits}
use Rattle.dci_fields.proofs.PayloadsOfRows.{payload_from}
use Rattle.dci_fields.proofs.RowLists.{second_width}
use Rattle.monitor_plan.specs.declared.watch.Watch.{Watch}
use Rattle.monitor_plan.specs.Watch.{fits, list_of, IsSound}
use Rattle.dci_fields.specs.FormatsOfSets.{is_for_fallback}
use Rattle.rrc_settings.specs.SetKinds.{is_specific}
use Rattle.dci_codec.proofs.WatchLists.{rows_there}

-- of two searches in order that find nothing, neither finds anything
both_none : {A : Type 0} (a b : Option A) → option_or a b ≡ None → (a ≡ None) × (b ≡ None)
both_none None b e = (refl, e)
both_none (Some x) b e = absurd (let f : ⊥ = cc in f)

-- a value is of a field that one may choose, and fits it
abbrev IsKnown : List FieldRow → Format → Given → Type 0
IsKnown rows format g = (width : ℕ) × (width_for rows format g.name ≡ Some width) × (g.value < 2 ^ width)

known_by : (rows : List FieldRow) (format : Format) (at : ℕ) (g : Given) (width : Option ℕ) → width_for rows format g.name ≡ width
    → fault_by at g.value width ≡ None → IsKnown rows format g
known_by rows format at g None e h = absurd (let f : ⊥ = cc in f)
known_by rows format at g (Some width) e h = (width, e, ltb-true g.value (2 ^ width) (passed (nat_lt g.value (2 ^ width)) h))
  where
    passed : (b : Bool) → ◌≡◌ {A = Option FieldFault} (cond b None (Some (TooLarge at width))) None → b ≡ true
    passed true k = refl
    passed false k = absurd (let f : ⊥ = cc in f)

some_same : (a b : Given) → Some a ≡ Some b → a ≡ b
some_same a b e = cc

known_from : (rows : List FieldRow) (format : Format) (at : ℕ) (given : List Given) → fault_from rows format at given ≡ None
    → (k : ℕ) (g : Given) → slice_get given k ≡ Some g → IsKnown rows format g
known_from rows format at [] h k g e = absurd (let f : ⊥ = cc in f)
known_from rows format at (x ∷ given) h zero g e =
    let parts = both_none (fault_by at x.value (width_for rows format x.name)) (fault_from rows format (at + 1) given) h in
    let P : Given → Type 0 = λ y. IsKnown rows format y in
    subst P (some_same x g e) (known_by rows format at x (width_for rows format x.name) refl parts.0)
known_from rows format at (x ∷ given) h (suc k) g e =
    let parts = both_none (fault_by at x.value (width_for rows format x.name)) (fault_from rows format (at + 1) given) h in
    known_from rows format (at + 1) given parts.1 k g e

-- the format allows a row its settled value, where that is not all ones in a frequency assignment of format 1_0
all_ones_width : (width : ℕ) → is_all_ones width (2 ^ width - 1) ≡ true
all_ones_width width = let some : 0 < 2 ^ width = pow_pos width in eq-eqb (2 ^ width - 1 + 1) (2 ^ width) (omega (arith, some))

allowed_fdra : (format : Format) (given : List Given) (width : ℕ)
    → (format ≡ F10 → is_all_ones_fdra given (row names.Fdra width) ≡ false)
    → is_allowed names.Fdra format width (settled_value format given (row names.Fdra width)) ≡ true
allowed_fdra F00 given width h = refl
allowed_fdra F10 given width h = ap not (h refl)
allowed_fdra Order given width h = all_ones_width width
allowed_fdra F01 given width h = refl
allowed_fdra F11 given width h = refl

allowed_row : (format : Format) (given : List Given) (name : FieldName) (width : ℕ)
    → (format ≡ F10 → is_all_ones_fdra given (row name width) ≡ false)
    → is_allowed name format width (settled_value format given (row name width)) ≡ true
allowed_row format given names.Identifier width h = eq-eqb _ _ refl
allowed_row format given names.Fdra width h = allowed_fdra format given width h
allowed_row format given _ width h = refl

allowed_rows : (format : Format) (given : List Given) (rows : List FieldRow)
    → (format ≡ F10 → list_any (is_all_ones_fdra given) rows ≡ false)
    → are_allowed rows format (map (settled_value format given) rows) ≡ true
allowed_rows format given [] h = refl
allowed_rows format given (r ∷ rows) h =
    and_from (is_allowed r.name format r.width (settled_value format given r))
    (are_allowed rows format (map (settled_value format given) rows))
    (allowed_row format given r.name r.width
    (λ e. (or_parts (is_all_ones_fdra given r) (list_any (is_all_ones_fdra given) rows) (h e)).0))
    (allowed_rows format given rows (λ e. (or_parts (is_all_ones_fdra given r) (list_any (is_all_ones_fdra given) rows) (h e)).1))

not_asked : (b : Bool) → ◌≡◌ {A = Option FieldFault} (cond b (Some AllOnes) None) None → b ≡ false
not_asked true e = absurd (let f : ⊥ = cc in f)
not_asked false e = refl

-- they have a payload
pub payload_there : (rows : List FieldRow) (format : Format) (given : List Given) (size : ℕ) → IsFieldList rows
    → field_fault rows format given ≡ None
    → (payload : List Bool) × (payload_of rows format (settled rows format given) size ≡ Some payload)
unfolding field_fault
payload_there rows format given size list none =
    let parts = both_none (fault_from rows format 0 given) (cond (asks_for_order rows format given) (Some AllOnes) None) none in
    let known : AreKnown rows format given = λ at g within e. known_from rows format 0 given parts.0 at g e in
    let asks : asks_for_order rows format given ≡ false = not_asked (asks_for_order rows format given) parts.1 in
    let P : Format → Type 0 = λ f. asks_for_order rows f given ≡ false in
    let values = settled rows format given in (
      joined rows values ++ replicate (size - width_of rows) false,
      payload_from rows format values size (joined rows values ++ replicate (size - width_of rows) false)
          (record {
            fits = settled-fits rows format given list known;
            allows = allowed_rows format given rows
                (λ e. subst P e asks);
            is = refl;
          }),
    )

-- the rows of an order are a list of fields
order_is_list : (size : ℕ) (rows : List FieldRow) → IsFieldList rows → HasRoomForOrder size rows → IsFieldList (order_of rows)
order_is_list size [] list room = absurd room
order_is_list size (first ∷ []) list room = absurd room
order_is_list size (first ∷ second ∷ rest) list room =
    let d : FieldRow = row names.Identifier 0 in
    let some : 1 ≤ second.width = second_width (first ∷ second ∷ rest) d list room.1 in
    let one : first ≡ row names.Identifier 1 = ap (λ n. row n first.width) list.begins.0
    ∙ ap (row names.Identifier) list.begins.1 in
    let two : second ≡ row names.Fdra second.width = ap (λ n. row n second.width) room.1 in
    let P : FieldRow → Type 0 = λ r. IsFieldList (r ∷ second ∷ rows_after_order) in
    let Q : FieldRow → Type 0 = λ r. IsFieldList (row names.Identifier 1 ∷ r ∷ rows_after_order) in
    subst P (sym one)
    (subst Q (sym two)
    (record {
      few = omega arith;
      begins = (refl, refl);
      apart = refl;
      fdra = ap (λ (b : Bool). b || false) (lt-ltb 0 second.width some);
      narrow = (omega arith, (list.narrow.1.0, (omega arith, (omega arith, (omega arith, (omega arith, (omega arith, tt)))))));
    }))

-- the fields of a format that fits a sound watch are a list of fields
pub list_is : (w : Watch) (f : Format) → IsSound w → fits w f ≡ true → IsFieldList (list_of w f)
list_is w F00 sound h = rows_there IsFieldList w.up (and_parts (is_for_fallback w.kind) (is_some w.up) h).1 sound.up_list
list_is w F10 sound h = rows_there IsFieldList w.down (and_parts (is_for_fallback w.kind) (is_some w.down) h).1 sound.down_list
list_is w Order sound h =
    let parts = and_parts (is_for_fallback w.kind) (is_some w.down) h in
    order_is_list w.size (unwrap_or w.down []) (rows_there IsFieldList w.down parts.1 sound.down_list)
    (rows_there (HasRoomForOrder w.size) w.down parts.1 (sound.fallback parts.0))
list_is w F01 sound h = rows_there IsFieldList w.up (and_parts (is_specific w.kind) (is_some w.up) h).1 sound.up_list
list_is w F11 sound h = rows_there IsFieldList w.down (and_parts (is_specific w.kind) (is_some w.down) h).1 sound.down_list
