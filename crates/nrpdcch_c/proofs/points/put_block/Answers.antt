use Rattle.std.proofs.Common.{arith, sym, ap, length, ◌<◌, ◌*◌, replicate}
use Rattle.std.proofs.lemmas.Grind.{common_steps}
use Rattle.std.proofs.lemmas.List.{get_or-replicate, length-replicate}
use Rattle.slot_grid.specs.declared.places.Point.TheVariants.{Empty}
use Rattle.nrpdcch_c.specs.Points.{places_of, point_of}
use Rattle.nrpdcch_c.proofs.Overlays.{overlaid_next, overlaid_kept}
use Rattle.nrpdcch_c.proofs.PlacesInOrder.{written_in_order}
use Rattle.nrpdcch_c.proofs.points.put_block.Goals as goal
use Rattle.nrpdcch_c.proofs.points.put_block.Goals.{then-bytes-at-ne0, else-bytes-at-ne0}

pub loop-at-preserved : goal.loop-at-preserved
loop-at-preserved c =
    let i = c.loop-at.at in
    let old = c.loop-at.grid in
    let bytes = c.args.bytes.now in
    let size = c.requires.size in
    let width = c.loop-at.invariant.width in
    let before = c.loop-at.invariant.grid in
    let start = c.requires.start in
    let past = c.loop-at-test.true in
    let test : i < length bytes = omega (arith, past, start) in
    let long = length-replicate (places_of c.args.grid.now.blocks) Empty in
    let blank = replicate (places_of c.args.grid.now.blocks) Empty in
    elim c.if-bytes-at-ne0.branch [
      | then-bytes-at-ne0 w ↦
          let r = w.grid-is in
          let put = w.put.ensures.grid in
          let point = w.point_of.ensures in
          let written = written_in_order old w.point_of.result (12 * c.args.grid.now.blocks) i (sym (ap (λ g. 12 * g.blocks)
          before)) in
          let next = overlaid_next point_of bytes blank i 0 Empty test (omega (arith, long, size, test)) in
          grind (arith, common_steps)
      | else-bytes-at-ne0 w ↦
          let r = w.grid-is in
          let zero = w.if-bytes-at-ne0 in
          let empty = get_or-replicate (places_of c.args.grid.now.blocks) i Empty Empty (omega (arith, size, test)) in
          let kept = overlaid_kept point_of bytes blank i 0 Empty test (omega (arith, long, size, test))
          (grind (arith, common_steps)) in
          grind (arith, common_steps)
    ]
