use Rattle.std.proofs.Common.{ℕ, ◌+◌, ◌*◌, ◌<◌, sym, ◌∙◌, ap, arith}
use Rattle.slot_grid.specs.Block.{point_in}
use Rattle.slot_grid.specs.Grid.{GridValue, point_at}
use Rattle.slot_grid.proofs.GridWords.{point_of_block, word_read}
use Rattle.slot_grid.proofs.places.Grid.block.Goals as goal

pub returns : goal.returns
returns c k l =
    let a = c.args in
    let g = c.self.inside in
    let blocks = ap (λ (g : GridValue). g.blocks) c.self.view_is in
    let within : a.block < g.blocks = omega (arith, blocks, c.requires.block) in
    let word = c.index.result.now in
    ap (λ (g : GridValue). point_at g a.symbol (12 * a.block + k)) (sym c.self.view_is)
    ∙ point_of_block g a.symbol a.block k c.self.invariant c.requires.symbol within l
    ∙ ap (λ (w : ℕ). point_in w k)
    (sym (word_read g.words.items g.blocks a.symbol a.block c.place.result word c.self.invariant.words c.requires.symbol within
    c.place.ensures c.index.ensures))
