use Rattle.std.proofs.Common.{◌≡◌, ◌+◌, ◌*◌, sym, ◌∙◌, ap, subst, arith, drop}
use Rattle.grid_file.specs.Reading.{place_of, IsPlacedTo}
use Rattle.slot_grid.proofs.Numbers.{numbers_on}
use Rattle.grid_file.proofs.Placing.{cell_leaves, cell_more, line_leaves, line_more, not_there}
use Rattle.grid_file.proofs.points.read_line.Goals as goal

pub returns-in_default-clause-leaves : goal.returns-in_default-clause-leaves
returns-in_default-clause-leaves c =
    let a = c.args in
    let l = c.loop-subcarrier in
    let value = c.blocks-blocks.ensures.value in
    let place = ap (λ n. a.start + n) (c.place_of.ensures ∙ ap (λ b. place_of b a.symbol l.subcarrier) value) in
    cell_leaves a.grid.now.blocks a.bytes.now a.start a.symbol l.subcarrier (a.start + c.place_of.result) l.grid
    c.requires.symbol (omega arith) l.invariant.placed place
    (sym c.in_default.ensures.value)

pub loop-subcarrier-preserved : goal.loop-subcarrier-preserved
loop-subcarrier-preserved c =
    let a = c.args in
    let l = c.loop-subcarrier in
    let value = c.blocks-blocks.ensures.value in
    let place = ap (λ n. a.start + n) (c.place_of.ensures ∙ ap (λ b. place_of b a.symbol l.subcarrier) value) in
    record {
      placed =
          cell_more a.grid.now.blocks a.bytes.now a.start a.symbol l.subcarrier (a.start + c.place_of.result)
          c.in-Some.point l.grid c.put.new.self
          c.requires.symbol (omega arith) l.invariant.placed c.put.ensures.places place (sym c.in-Some.ensures.value)
          c.in-Some.ensures.within;
      keeps = numbers_on l.invariant.keeps c.put.ensures.places.numbers;
    }

pub returns-then-not-has-clause-leaves : goal.returns-then-not-has-clause-leaves
returns-then-not-has-clause-leaves c =
    let a = c.args in
    let l = c.loop-subcarrier in
    let value = c.blocks-blocks.ensures.value in
    let place = ap (λ n. a.start + n) (c.place_of-2.ensures ∙ ap (λ b. place_of b a.symbol (12 * b)) value) in
    let all : l.subcarrier ≡ 12 * a.grid.now.blocks = omega arith in
    let placed = subst (λ n. IsPlacedTo (drop a.start a.bytes.now) a.grid.now.blocks a.symbol n l.grid) all l.invariant.placed in
    line_leaves a.grid.now.blocks a.bytes.now a.start a.symbol (a.start + c.place_of-2.result) l.grid c.requires.symbol
    placed place
    (not_there c.has.result c.has.ensures.1 c.if-not-has.true)

pub returns-clause-read : goal.returns-clause-read
returns-clause-read c =
    let a = c.args in
    let l = c.loop-subcarrier in
    let value = c.blocks-blocks.ensures.value in
    let place = ap (λ n. a.start + n) (c.place_of-2.ensures ∙ ap (λ b. place_of b a.symbol (12 * b)) value) in
    let all : l.subcarrier ≡ 12 * a.grid.now.blocks = omega arith in
    let placed = subst (λ n. IsPlacedTo (drop a.start a.bytes.now) a.grid.now.blocks a.symbol n l.grid) all l.invariant.placed in
    line_more a.grid.now.blocks a.bytes.now a.start a.symbol (a.start + c.place_of-2.result) l.grid c.requires.symbol placed place
    (c.has.ensures.0 c.if-not-has.false)
