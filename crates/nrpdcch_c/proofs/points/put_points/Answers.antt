use Rattle.std.proofs.Common.{arith, ap, sym, ◌∙◌, ◌*◌, ◌+◌, ◌-◌, ◌≡◌, ◌<◌, ℕ, drop, replicate, take, get_or}
use Rattle.std.proofs.lemmas.List.{get_or-replicate, length-replicate}
use Rattle.slot_grid.specs.declared.places.Point.TheVariants.{Empty}
use Rattle.nrpdcch_c.specs.FilledGrids.{filled_to}
use Rattle.nrpdcch_c.specs.Points.{grid_by, places_of, point_of}
use Rattle.nrpdcch_c.proofs.FirstBytes.{zero_there}
use Rattle.nrpdcch_c.proofs.Overlays.{overlaid_through}
use Rattle.nrpdcch_c.proofs.points.put_points.Goals as goal
use Rattle.nrpdcch_c.proofs.points.put_points.Goals.{then-not-is_empty, else-not-is_empty}

pub loop-block-preserved : goal.loop-block-preserved
loop-block-preserved c =
    let bytes = c.args.bytes.now in
    let grid = c.args.grid.now in
    let start = 12 * c.loop-block.block in
    let blank = replicate (places_of grid.blocks) Empty in
    let before = c.loop-block.invariant in
    let size = c.requires.size in
    let long = length-replicate (places_of grid.blocks) Empty in
    let few = c.loop-block-test.true in
    let all = c.blocks-2.ensures.value in
    let further : filled_to (start + 12) bytes grid ≡ filled_to (12 * (c.loop-block.block + 1)) bytes grid =
    ap (λ n. filled_to n bytes grid) (omega arith) in
    elim c.if-not-is_empty.branch [
      | then-not-is_empty w ↦
          w.grid-is ∙ w.put_block.ensures ∙ ap (λ g. filled_to (start + 12) bytes g) before ∙ further
      | else-not-is_empty w ↦
          let twelve : 12 ≡ start + 12 - start = omega arith in
          let zeros : take 12 (drop start bytes) ≡ replicate 12 0 =
          ap (λ n. take n (drop start bytes)) twelve ∙ c.is_empty.ensures w.if-not-is_empty.false in
          let same : (k : ℕ) → k < 12 → get_or blank (start + k) Empty ≡ point_of (get_or bytes (start + k) 0) =
          λ k lt.
          get_or-replicate (places_of grid.blocks) (start + k) Empty Empty (omega (arith, lt))
          ∙ ap point_of (sym (zero_there bytes start k zeros lt)) in
          let through = overlaid_through point_of bytes blank 0 Empty start 12 (omega arith) (omega arith) same in
          w.grid-is ∙ before ∙ ap (λ points. grid_by grid.mu grid.frame grid.slot grid.blocks points) through ∙ further
    ]
