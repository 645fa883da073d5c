use Rattle.dci_fields.specs.declared.names.FieldName.TheVariants as names
use Rattle.dci_fields.specs.declared.rows.FieldRow.{FieldRow}
use Rattle.dci_fields.proofs.GivenLists.{narrow_at}
use Rattle.dci_fields.proofs.packing.width_for.Goals as goal

pub returns-then-not-is_fixed-clause-narrow : goal.returns-then-not-is_fixed-clause-narrow
returns-then-not-is_fixed-clause-narrow c =
    let d : FieldRow = record { name = names.Identifier; width = 0 } in
    narrow_at c.args.rows.now c.loop-row.row-index d c.requires c.loop-row-test.true
