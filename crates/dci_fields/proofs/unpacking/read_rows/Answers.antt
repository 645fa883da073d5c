use Rattle.std.proofs.Common.{arith, sym, ◌∙◌}
use Rattle.dci_fields.specs.declared.names.FieldName.TheVariants.{Identifier}
use Rattle.dci_fields.proofs.RowReading.{row_within, one_row_more}
use Rattle.dci_fields.proofs.unpacking.read_rows.Goals as goal

pub overflow_add-place : goal.overflow_add-place
overflow_add-place c =
    omega (
      arith,
      row_within c.args.rows.now c.args.format c.args.payload.now c.loop-row.row-index c.loop-row.place
          c.loop-row.values (record { name = Identifier; width = 0 }) c.loop-row.invariant c.loop-row-test.true,
    )

pub loop-row-preserved : goal.loop-row-preserved
loop-row-preserved c =
    one_row_more c.args.rows.now c.args.format c.args.payload.now c.loop-row.row-index c.loop-row.place c.loop-row.values
    c.show.new.values (record { name = Identifier; width = 0 })
    c.number_at-value.result c.loop-row.invariant c.loop-row-test.true c.number_at-value.ensures
    (sym c.is_allowed.ensures ∙ c.if-not-is_allowed.false) c.show.ensures
