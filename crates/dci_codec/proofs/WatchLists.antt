-- The lists of the formats that fit a sound watch: how wide they are, how they begin, and that no payload is of two formats.
use Rattle.std.proofs.Common.{◌≡◌, ℕ, ◌≤◌, Bool, true, ◌&&◌, List, [], ◌∷◌, Option, Some, None, is_some, unwrap_or}
use Rattle.std.proofs.Common.{IfSome, refl, sym, ◌∙◌, arith}
use Rattle.std.proofs.lemmas.Bool.{and_parts}
use Rattle.dci_fields.specs.declared.formats.Format.{Format}
use Rattle.dci_fields.specs.declared.formats.Format.TheVariants.{F00, F10, Order, F01, F11}
use Rattle.dci_fields.specs.declared.rows.FieldRow.{FieldRow}
use Rattle.dci_fields.specs.FieldLists.{width_of, BeginsWithIdentifier, IsFieldList}
use Rattle.dci_fields.specs.FittedRows.{order_of, HasFdraSecond, HasRoomForOrder}
use Rattle.dci_fields.specs.Payloads.{payload_of}
use Rattle.dci_fields.proofs.FormatsApart.{is_downlink, payload_down, order_apart}
use Rattle.monitor_plan.specs.declared.watch.Watch.{Watch}
use Rattle.monitor_plan.specs.Watch.{fits, list_of, IsSound}
use Rattle.monitor_plan.proofs.OrderLists.{second_fdra}
use Rattle.dci_fields.specs.FormatsOfSets.{is_for_fallback}
use Rattle.rrc_settings.specs.declared.settings.SetKind.{SetKind}
use Rattle.rrc_settings.specs.declared.settings.SetKind.TheVariants.{Common, Fallback, Specific}
use Rattle.rrc_settings.specs.SetKinds.{is_specific}

-- what holds of a list of fields where there is one holds of that one
pub rows_there : (P : List FieldRow → Type 0) (list : Option (List FieldRow)) → is_some list ≡ true → IfSome list P
    → P (unwrap_or list [])
rows_there P None e h = absurd (let f : ⊥ = cc in f)
rows_there P (Some rows) e h = h

-- the rows of an order, from those of format 1_0
order_width : (size : ℕ) (rows : List FieldRow) → HasRoomForOrder size rows → width_of (order_of rows) ≤ size
order_width size [] h = absurd h
order_width size (first ∷ []) h = absurd h
order_width size (first ∷ second ∷ rest) h = let room = h.2 in omega (arith, room)

order_begins : (rows : List FieldRow) → BeginsWithIdentifier rows → BeginsWithIdentifier (order_of rows)
order_begins [] h = absurd h
order_begins (first ∷ rest) h = h

-- the list of a format that fits is no wider than the size
pub list_width : (w : Watch) (f : Format) → IsSound w → fits w f ≡ true → width_of (list_of w f) ≤ w.size
list_width w F00 sound h =
    rows_there (λ rows. width_of rows ≤ w.size) w.up (and_parts (is_for_fallback w.kind) (is_some w.up) h).1 sound.up
list_width w F10 sound h =
    rows_there (λ rows. width_of rows ≤ w.size) w.down (and_parts (is_for_fallback w.kind) (is_some w.down) h).1 sound.down
list_width w Order sound h =
    let parts = and_parts (is_for_fallback w.kind) (is_some w.down) h in
    order_width w.size (unwrap_or w.down []) (rows_there (HasRoomForOrder w.size) w.down parts.1 (sound.fallback parts.0))
list_width w F01 sound h =
    rows_there (λ rows. width_of rows ≤ w.size) w.up (and_parts (is_specific w.kind) (is_some w.up) h).1 sound.up
list_width w F11 sound h =
    rows_there (λ rows. width_of rows ≤ w.size) w.down (and_parts (is_specific w.kind) (is_some w.down) h).1 sound.down

begins_in : (list : Option (List FieldRow)) → is_some list ≡ true → IfSome list IsFieldList
    → BeginsWithIdentifier (unwrap_or list [])
begins_in list e h = let l : IsFieldList (unwrap_or list []) = rows_there IsFieldList list e h in l.begins

-- and begins with the identifier
pub list_begins : (w : Watch) (f : Format) → IsSound w → fits w f ≡ true → BeginsWithIdentifier (list_of w f)
list_begins w F00 sound h = begins_in w.up (and_parts (is_for_fallback w.kind) (is_some w.up) h).1 sound.up_list
list_begins w F10 sound h = begins_in w.down (and_parts (is_for_fallback w.kind) (is_some w.down) h).1 sound.down_list
list_begins w Order sound h =
    order_begins (unwrap_or w.down [])
    (begins_in w.down (and_parts (is_for_fallback w.kind) (is_some w.down) h).1 sound.down_list)
list_begins w F01 sound h = begins_in w.up (and_parts (is_specific w.kind) (is_some w.up) h).1 sound.up_list
list_begins w F11 sound h = begins_in w.down (and_parts (is_specific w.kind) (is_some w.down) h).1 sound.down_list

-- the frequency assignment is second in format 1_0
fdra_second : (w : Watch) → IsSound w → fits w F10 ≡ true → HasFdraSecond (unwrap_or w.down [])
fdra_second w sound h =
    let parts = and_parts (is_for_fallback w.kind) (is_some w.down) h in
    second_fdra w.size (unwrap_or w.down []) (rows_there (HasRoomForOrder w.size) w.down parts.1 (sound.fallback parts.0))

-- no kind of set is for both kinds of format
kinds_apart : (kind : SetKind) (a b : Bool) → (is_for_fallback kind && a) ≡ true → (is_specific kind && b) ≡ true → ⊥
kinds_apart Common a b h k = cc
kinds_apart Fallback a b h k = cc
kinds_apart Specific a b h k = cc

-- two formats that carry one payload go the same way
pub same_way : (w : Watch) (f g : Format) (values others : List ℕ) (payload : List Bool) → IsSound w → fits w f ≡ true
    → fits w g ≡ true
    → payload_of (list_of w f) f values w.size ≡ Some payload → payload_of (list_of w g) g others w.size ≡ Some payload
    → is_downlink f ≡ is_downlink g
same_way w f g values others payload sound h k e i =
    sym (payload_down (list_of w f) f values w.size payload (list_begins w f sound h) e)
    ∙ payload_down (list_of w g) g others w.size payload (list_begins w g sound k) i

-- a payload is of one format at most
pub one_format : (w : Watch) (f g : Format) (values others : List ℕ) (payload : List Bool) → IsSound w → fits w f ≡ true
    → fits w g ≡ true
    → payload_of (list_of w f) f values w.size ≡ Some payload → payload_of (list_of w g) g others w.size ≡ Some payload → f ≡ g
one_format w F00 F00 values others payload sound h k e i = refl
one_format w F00 F10 values others payload sound h k e i =
    let s = same_way w F00 F10 values others payload sound h k e i in absurd (let f : ⊥ = cc in f)
one_format w F00 Order values others payload sound h k e i =
    let s = same_way w F00 Order values others payload sound h k e i in absurd (let f : ⊥ = cc in f)
one_format w F00 F01 values others payload sound h k e i = absurd (kinds_apart w.kind (is_some w.up) (is_some w.up) h k)
one_format w F00 F11 values others payload sound h k e i = absurd (kinds_apart w.kind (is_some w.up) (is_some w.down) h k)
one_format w F10 F00 values others payload sound h k e i =
    let s = same_way w F10 F00 values others payload sound h k e i in absurd (let f : ⊥ = cc in f)
one_format w F10 F10 values others payload sound h k e i = refl
one_format w F10 Order values others payload sound h k e i =
    absurd (order_apart (unwrap_or w.down []) values others w.size w.size payload (fdra_second w sound h) e i)
one_format w F10 F01 values others payload sound h k e i = absurd (kinds_apart w.kind (is_some w.down) (is_some w.up) h k)
one_format w F10 F11 values others payload sound h k e i = absurd (kinds_apart w.kind (is_some w.down) (is_some w.down) h k)
one_format w Order F00 values others payload sound h k e i =
    let s = same_way w Order F00 values others payload sound h k e i in absurd (let f : ⊥ = cc in f)
one_format w Order F10 values others payload sound h k e i =
    absurd (order_apart (unwrap_or w.down []) others values w.size w.size payload (fdra_second w sound k) i e)
one_format w Order Order values others payload sound h k e i = refl
one_format w Order F01 values others payload sound h k e i = absurd (kinds_apart w.kind (is_some w.down) (is_some w.up) h k)
one_format w Order F11 values others payload sound h k e i = absurd (kinds_apart w.kind (is_some w.down) (is_some w.down) h k)
one_format w F01 F00 values others payload sound h k e i = absurd (kinds_apart w.kind (is_some w.up) (is_some w.up) k h)
one_format w F01 F10 values others payload sound h k e i = absurd (kinds_apart w.kind (is_some w.down) (is_some w.up) k h)
one_format w F01 Order values others payload sound h k e i = absurd (kinds_apart w.kind (is_some w.down) (is_some w.up) k h)
one_format w F01 F01 values others payload sound h k e i = refl
one_format w F01 F11 values others payload sound h k e i =
    let s = same_way w F01 F11 values others payload sound h k e i in absurd (let f : ⊥ = cc in f)
one_format w F11 F00 values others payload sound h k e i = absurd (kinds_apart w.kind (is_some w.up) (is_some w.down) k h)
one_format w F11 F10 values others payload sound h k e i = absurd (kinds_apart w.kind (is_some w.down) (is_some w.down) k h)
one_format w F11 Order values others payload sound h k e i = absurd (kinds_apart w.kind (is_some w.down) (is_some w.down) k h)
one_format w F11 F01 values others payload sound h k e i =
    let s = same_way w F11 F01 values others payload sound h k e i in absurd (let f : ⊥ = cc in f)
one_format w F11 F11 values others payload sound h k e i = refl
