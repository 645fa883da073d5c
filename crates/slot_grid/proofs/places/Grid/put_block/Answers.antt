use Rattle.std.proofs.Common.{◌<◌, set, subst, ap, arith}
use Rattle.slot_grid.specs.Grid.{GridValue, IsBlockPut}
use Rattle.slot_grid.proofs.BlockWrites.{block_written}
use Rattle.slot_grid.proofs.GridWords.{grid_in}
use Rattle.slot_grid.proofs.places.Grid.put_block.Goals as goal

pub returns : goal.returns
returns c =
    let a = c.args in
    let g = c.self.inside in
    let blocks = ap (λ (g : GridValue). g.blocks) c.self.view_is in
    let within : a.block < g.blocks = omega (arith, blocks, c.requires.block) in
    let new = grid_in g.mu g.frame g.slot g.blocks (set g.words.items c.place-place.result a.word) in
    let onto : GridValue → Type 0 = λ old. IsBlockPut a.symbol a.block a.word old new in
    subst onto c.self.view_is
    (block_written g.mu g.frame g.slot g.blocks g.words.items a.symbol a.block c.place-place.result a.word
    c.self.invariant.words c.requires.symbol within c.place-place.ensures)
