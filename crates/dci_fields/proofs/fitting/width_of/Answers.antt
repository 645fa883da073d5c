use Rattle.std.proofs.Common.{arith}
use Rattle.dci_fields.specs.declared.names.FieldName.TheVariants as names
use Rattle.dci_fields.specs.declared.rows.FieldRow.{FieldRow}
use Rattle.dci_fields.proofs.RowLists.{list_width_le, so_far_le}
use Rattle.dci_fields.proofs.fitting.width_of.Goals as goal

pub overflow_add-width : goal.overflow_add-width
overflow_add-width c =
    let d : FieldRow = record { name = names.Identifier; width = 0 } in
    omega (
      arith,
      so_far_le c.rows-row-items.result.now c.args.list.now c.loop-row.width c.loop-row.row-index d
          c.rows-row-items.ensures.value c.rows-row-items.ensures.list c.loop-row-test.true c.loop-row.invariant,
    )

pub returns-clause-most : goal.returns-clause-most
returns-clause-most c = omega (arith, c.loop-row.invariant, list_width_le c.args.list.now c.rows-row-items.ensures.list)
