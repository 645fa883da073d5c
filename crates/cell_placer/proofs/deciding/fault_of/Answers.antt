use Rattle.std.proofs.Common.{refl}
use Rattle.cell_placer.proofs.FieldChecks.{none_at, fault_at}
use Rattle.cell_placer.proofs.deciding.fault_of.Goals as goal

pub returns-in-Ok : goal.returns-in-Ok
returns-in-Ok c =
    none_at c.list-list.ensures.value c.as_slice.ensures ((c.in-Ok.ensures.payload c.in-Ok._payload).0 refl)

pub returns-in-Err : goal.returns-in-Err
returns-in-Err c =
    fault_at c.args.grant.now.format c.list-list.ensures.value c.as_slice.ensures ((c.in-Err.ensures.fault c.in-Err.fault).0 refl)
