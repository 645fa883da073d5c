use Rattle.std.proofs.Common.{◌∙◌, Err, ap, refl}
use Rattle.std.proofs.lemmas.Result.{err_from_is_err_and}
use Rattle.dci_fields.specs.declared.fault.FieldFault.{FieldFault}
use Rattle.dci_codec.proofs.Spellings.{fault_passed, fault_refused, spelled_from}
use Rattle.dci_codec.proofs.spelling.spell_with.Goals as goal

pub returns-in_err-payload-clause-fault : goal.returns-in_err-payload-clause-fault
returns-in_err-payload-clause-fault c =
    let told = err_from_is_err_and c.from_residual.result c.from_residual.ensures.1 in
    fault_refused c.args.watch.now c.args.format c.args.given.now c.list.result c.in_err-payload.field-0.0
    c.from_residual.result c.list.ensures
    (told.1 ∙ ap (λ (e : FieldFault). Err e) told.2) c.in_err-payload.ensures.fault

pub returns-clause-fault : goal.returns-clause-fault
returns-clause-fault c =
    fault_passed c.args.watch.now c.args.format c.args.given.now c.list.result c.in_ok-payload.payload tt c.list.ensures
    c.in_ok-payload.ensures.fault

pub returns-clause-spelled : goal.returns-clause-spelled
returns-clause-spelled c =
    spelled_from c.args.tables.now c.args.watch.now c.args.format c.args.given.now c.list.result c.from.result
    c.in_ok-payload.payload c.args.grid.now c.put_payload.new.grid
    c.list.ensures c.from.ensures ((c.in_ok-payload.ensures.payload c.in_ok-payload.payload).0 refl)
    c.put_payload.ensures.written
