use Rattle.std.proofs.Common.{refl, ap, ◌∙◌}
use Rattle.crc_mask.specs.Parity.{masked}
use Rattle.slot_grid.specs.Grid.{GridValue}
use Rattle.slot_grid.proofs.Images.{blocks-overwritten}
use Rattle.dci_codec.specs.BlockImage.{block_image}
use Rattle.monitor_plan.specs.Watch.{list_of}
use Rattle.cell_placer.proofs.FieldChecks.{no_fault}
use Rattle.cell_placer.proofs.desk.write.Goals as goal

pub unreachable-requires : goal.unreachable-requires
unreachable-requires c =
    let format = c.args.grant.now.format in
    no_fault (list_of c.args.watch.now format) format c.in-Err.field-0 c.requires.faultless c.as_slice-given.ensures
    ((c.in-Err.ensures.fault c.in-Err.field-0).0 refl)

pub returns-clause-blocks : goal.returns-clause-blocks
returns-clause-blocks c =
    let done = c.in-Ok.ensures.spelled in
    let image =
    block_image c.args.tables.now c.args.grid.now.slot c.args.watch.now (masked done.payload c.args.watch.now.rnti) in
    ap (λ (g : GridValue). g.blocks) done.written ∙ blocks-overwritten image c.args.grid.now
