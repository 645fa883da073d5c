use Rattle.std.proofs.Common.{ℕ, ◌*◌, ◌/◌, ◌%◌, ◌<◌, sym, ◌∙◌, ap, arith}
use Rattle.slot_grid.specs.Block.{point_in}
use Rattle.slot_grid.specs.Grid.{GridValue, point_at}
use Rattle.slot_grid.proofs.GridWords.{point_of_place, word_read}
use Rattle.slot_grid.proofs.places.Grid.get.Goals as goal

pub returns : goal.returns
returns c =
    let a = c.args in
    let g = c.self.inside in
    let blocks = ap (λ (g : GridValue). g.blocks) c.self.view_is in
    let within : a.subcarrier < 12 * g.blocks = omega (arith, blocks, c.requires.subcarrier) in
    let word = c.index-word.result.now in
    c.point_of_word.ensures
    ∙ ap (point_in word) c.from.ensures
    ∙ ap (λ (w : ℕ). point_in w (a.subcarrier % 12))
    (word_read g.words.items g.blocks a.symbol (a.subcarrier / 12) c.place.result word c.self.invariant.words c.requires.symbol
    (omega arith) c.place.ensures c.index-word.ensures)
    ∙ sym (point_of_place g a.symbol a.subcarrier c.self.invariant c.requires.symbol within)
    ∙ ap (λ (g : GridValue). point_at g a.symbol a.subcarrier) c.self.view_is
