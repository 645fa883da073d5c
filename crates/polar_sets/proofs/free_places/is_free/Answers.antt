use Rattle.std.proofs.Common.{sym, ◌-◌, ◌∙◌, arith, ap, ℕ, leb}
use Rattle.std.proofs.lemmas.Bool.{lt-leb}
use Rattle.polar_sets.proofs.Frozen.{free_past, free_punctured, free_punctured_not, free_repeated, free_shortened}
use Rattle.polar_sets.proofs.free_places.is_free.Goals as goal

pub returns-then-position-n-clause-free : goal.returns-then-position-n-clause-free
returns-then-position-n-clause-free c = sym (free_past c.args.n c.args.k c.args.e c.args.position (omega arith))

pub returns-in-Repeated-clause-free : goal.returns-in-Repeated-clause-free
returns-in-Repeated-clause-free c =
    sym (free_repeated c.args.n c.args.k c.args.e c.args.position (omega arith) c.in-Repeated.ensures.holds)

pub returns-then-place-n-clause-free : goal.returns-then-place-n-clause-free
returns-then-place-n-clause-free c =
    let place = c.place_of-place in
    let way = c.in-Punctured.ensures.holds in
    ap (λ (front : ℕ). leb front c.args.position) c.front_of.ensures
    ∙ sym
    (free_punctured c.args.n c.args.k c.args.e place.result c.args.position c.requires.length place.ensures.within
    (omega arith) (omega arith) way.0 way.1 place.ensures.place)

pub returns-else-place-n-clause-free : goal.returns-else-place-n-clause-free
returns-else-place-n-clause-free c =
    let place = c.place_of-place in
    let way = c.in-Punctured.ensures.holds in
    lt-leb (c.args.n - c.args.e) place.result (omega arith)
    ∙ sym
    (free_punctured_not c.args.n c.args.k c.args.e place.result c.args.position (omega arith) (omega arith) way.0 way.1
    place.ensures.place)

pub returns-in-Shortened-clause-free : goal.returns-in-Shortened-clause-free
returns-in-Shortened-clause-free c =
    let place = c.place_of-place in
    let way = c.in-Shortened.ensures.holds in
    sym
    (free_shortened c.args.n c.args.k c.args.e place.result c.args.position c.requires.length place.ensures.within
    (omega arith) way.0 way.1 place.ensures.place)
