-- Lists of fields from which the list of a PDCCH order can be made.
use Rattle.std.proofs.Common.{◌≡◌, ℕ, true, List, [], ◌∷◌, Option, Some, IfSome, is_some, subst}
use Rattle.std.proofs.lemmas.Bool.{and_parts}
use Rattle.dci_fields.specs.declared.formats.Format.TheVariants.{Order}
use Rattle.dci_fields.specs.declared.rows.FieldRow.{FieldRow}
use Rattle.dci_fields.specs.FittedRows.{HasFdraSecond, HasRoomForOrder}
use Rattle.dci_fields.specs.FormatsOfSets.{is_for_fallback}
use Rattle.monitor_plan.specs.declared.watch.Watch.{Watch}
use Rattle.monitor_plan.specs.Watch.{fits, IsSound}

-- rows with room for an order have the frequency assignment second
pub second_fdra : (size : ℕ) (rows : List FieldRow) → HasRoomForOrder size rows → HasFdraSecond rows
second_fdra size [] h = absurd h
second_fdra size (first ∷ []) h = absurd h
second_fdra size (first ∷ second ∷ rest) h = h.1

-- and so have those of a watch that an order fits
pub order_fits : (w : Watch) (rows : List FieldRow) → IsSound w → fits w Order ≡ true → w.down ≡ Some rows → HasFdraSecond rows
order_fits w rows sound fitting there =
    let parts = and_parts (is_for_fallback w.kind) (is_some w.down) fitting in
    second_fdra w.size rows
    (subst (λ (d : Option (List FieldRow)). IfSome d (HasRoomForOrder w.size)) there (sound.fallback parts.0))
