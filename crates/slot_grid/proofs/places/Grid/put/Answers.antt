use Rattle.std.proofs.Common.{◌*◌, ◌/◌, ◌<◌, subst, sym, ◌∙◌, ap, arith}
use Rattle.slot_grid.specs.Grid.{GridValue, IsPut, with_point}
use Rattle.slot_grid.specs.View.{grid_of}
use Rattle.slot_grid.proofs.GridWords.{grid_written, word_read}
use Rattle.slot_grid.proofs.Writes.{put-with_point}
use Rattle.slot_grid.proofs.places.Grid.put.Goals as goal

-- the subcarrier is one of the grid
within : (c : goal.After-self-1) → c.args.subcarrier < 12 * c.self.inside.blocks
within c = omega (arith, c.requires.subcarrier, ap (λ (g : GridValue). g.blocks) c.self.view_is)

pub returns-clause-grid : goal.returns-clause-grid
returns-clause-grid c =
    let a = c.args in
    let g = c.self.inside in
    let block : a.subcarrier / 12 < g.blocks = omega (arith, within c) in
    grid_written g.mu g.frame g.slot g.blocks g.words.items a.symbol a.subcarrier c.place-place.result c.from.result
    c.index.result.now c.with_point.result a.point c.self.invariant.words c.requires.symbol (within c)
    c.place-place.ensures c.from.ensures
    (word_read g.words.items g.blocks a.symbol (a.subcarrier / 12) c.place-place.result c.index.result.now
    c.self.invariant.words c.requires.symbol block c.place-place.ensures c.index.ensures)
    c.with_point.ensures.there c.with_point.ensures.others
    ∙ ap (with_point a.symbol a.subcarrier a.point) c.self.view_is

pub returns-clause-places : goal.returns-clause-places
returns-clause-places c =
    let a = c.args in
    let put =
    put-with_point a.symbol a.subcarrier a.point (grid_of c.self.inside) c.self.invariant.grid.size c.requires.symbol (within c)
    in
    let from : GridValue → Type 0 = λ g. IsPut a.symbol a.subcarrier a.point g (with_point a.symbol a.subcarrier a.point g) in
    let onto : GridValue → Type 0 = λ g. IsPut a.symbol a.subcarrier a.point a.self.now g in
    subst onto (sym (returns-clause-grid c)) (subst from c.self.view_is put)
