use Rattle.dci_fields.proofs.unpacking.unpack.Goals as goal

pub returns : goal.returns
returns c = rw (← c.rows.ensures.value) c.unpack_core.ensures
