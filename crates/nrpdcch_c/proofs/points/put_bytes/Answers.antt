use Rattle.std.proofs.Common.{arith, refl, ◌*◌, ◌+◌}
use Rattle.std.proofs.lemmas.Grind.{common_steps}
use Rattle.slot_grid.specs.declared.places.Point.TheVariants.{Empty}
use Rattle.nrpdcch_c.specs.Points.{byte_of}
use Rattle.nrpdcch_c.proofs.Overlays.{overlaid_next}
use Rattle.nrpdcch_c.proofs.PlacesInOrder.{read_in_block}
use Rattle.nrpdcch_c.proofs.points.put_bytes.Goals as goal

pub loop-subcarrier-preserved : goal.loop-subcarrier-preserved
loop-subcarrier-preserved c =
    let index = c.loop-index.index in
    let k = c.loop-subcarrier.subcarrier in
    let grid = c.args.grid.now in
    let size = c.blocks-2.ensures.grid.size in
    let least = c.blocks-2.ensures.grid.blocks_least in
    let blocks = c.loop-subcarrier.invariant.blocks in
    let room = c.requires in
    let test = c.loop-index-test.true in
    let few = c.loop-subcarrier-test.true in
    let written = c.byte_in.ensures in
    let found = c.block-word.ensures k few in
    let read = read_in_block grid grid.blocks index k refl (omega arith) few in
    let next = overlaid_next byte_of grid.points c.args.bytes.now (12 * index + k) Empty 0 (omega arith) (omega arith) in
    let before = c.loop-subcarrier.invariant.bytes in
    grind (arith, common_steps)
