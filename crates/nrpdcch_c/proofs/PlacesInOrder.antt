-- The places of a grid in the order of its points.
use Rattle.std.proofs.Common.{◌≡◌, ℕ, ◌*◌, ◌+◌, ◌/◌, ◌%◌, ◌<◌, get_or, set, sym, ap, ◌∙◌, arith}
use Rattle.std.proofs.Math.Nat.{mod-lt}
use Rattle.std.proofs.lemmas.Nat.{div-add-mod'}
use Rattle.std.proofs.lemmas.Grind.{common_steps}
use Rattle.slot_grid.specs.declared.places.Point.{Point}
use Rattle.slot_grid.specs.declared.places.Point.TheVariants.{Empty}
use Rattle.slot_grid.specs.Grid.{GridValue, point_at, with_point}
use Rattle.nrpdcch_c.specs.Points.{grid_by}

-- the grid with a point that is written at a place
pub written_in_order : (grid : GridValue) (point : Point) (width i : ℕ) → width ≡ 12 * grid.blocks
    → with_point (i / width) (i % width) point grid ≡ grid_by grid.mu grid.frame grid.slot grid.blocks (set grid.points i point)
written_in_order grid point width i e =
    let at : i / width * (12 * grid.blocks) + i % width ≡ i = ap (λ w. i / width * w + i % width)
    (sym e) ∙ div-add-mod' i width in
    ap (λ n. grid_by grid.mu grid.frame grid.slot grid.blocks (set grid.points n point)) at

-- the point that is read in a block
pub read_in_block : (grid : GridValue) (blocks index k : ℕ) → blocks ≡ grid.blocks → 0 < blocks → k < 12
    → point_at grid (index / blocks) (12 * (index % blocks) + k) ≡ get_or grid.points (12 * index + k) Empty
read_in_block grid blocks index k e some few =
    let there = div-add-mod' index blocks in
    let inside = mod-lt index some in
    grind (arith, common_steps)
