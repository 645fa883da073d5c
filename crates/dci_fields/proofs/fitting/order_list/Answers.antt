use Rattle.std.proofs.Common.{◌≤◌, List, get_or, subst, sym}
use Rattle.dci_fields.specs.declared.names.FieldName.TheVariants as names
use Rattle.dci_fields.specs.declared.rows.FieldRow.{FieldRow}
use Rattle.dci_fields.proofs.RowLists.{second_width}
use Rattle.dci_fields.proofs.fitting.order_list.Goals as goal

pub rows_order-requires-clause-least : goal.rows_order-requires-clause-least
rows_order-requires-clause-least c =
    let d : FieldRow = record { name = names.Identifier; width = 0 } in
    let P : List FieldRow → Type 0 = λ rows. 1 ≤ (get_or rows 1 d).width in
    subst P (sym c.rows.ensures.value) (second_width c.args.list.now d c.rows.ensures.list c.requires)
