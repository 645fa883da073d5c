use Rattle.std.proofs.Common.{List, subst}
use Rattle.dci_fields.specs.declared.rows.FieldRow.{FieldRow}
use Rattle.dci_fields.specs.GivenValues.{IsPacked}
use Rattle.dci_fields.proofs.PackingOutcomes.{packed_exactly, fault_exactly, result_size}
use Rattle.dci_fields.proofs.packing.pack.Goals as goal

pub returns-clause-payload : goal.returns-clause-payload
returns-clause-payload c =
    let P : List FieldRow → Type 0 = λ rows. IsPacked rows c.args.format c.args.given.now c.args.size c.pack_core.result in
    packed_exactly c.args.list.now c.args.format c.args.given.now c.args.size c.pack_core.result
    (subst P c.rows.ensures.value c.pack_core.ensures)

pub returns-clause-fault : goal.returns-clause-fault
returns-clause-fault c =
    let P : List FieldRow → Type 0 = λ rows. IsPacked rows c.args.format c.args.given.now c.args.size c.pack_core.result in
    fault_exactly c.args.list.now c.args.format c.args.given.now c.args.size c.pack_core.result
    (subst P c.rows.ensures.value c.pack_core.ensures)

pub returns-clause-size_is : goal.returns-clause-size_is
returns-clause-size_is c =
    let P : List FieldRow → Type 0 = λ rows. IsPacked rows c.args.format c.args.given.now c.args.size c.pack_core.result in
    result_size c.args.list.now c.args.format c.args.given.now c.args.size c.pack_core.result c.requires.width
    (subst P c.rows.ensures.value c.pack_core.ensures)
