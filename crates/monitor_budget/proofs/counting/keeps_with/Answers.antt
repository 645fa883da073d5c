use Rattle.std.proofs.Common.{ℕ, List, ◌++◌, ◌∷◌, [], sym, arith}
use Rattle.monitor_budget.specs.Tally.{Tallies}
use Rattle.monitor_budget.proofs.TallyCounts.{tallies_more, fills_are}
use Rattle.monitor_budget.proofs.Allotments.{are_counts, limits_are, exceeds}
use Rattle.monitor_budget.proofs.counting.keeps_with.Goals as goal

pub returns-then-not-count_set-clause-limits : goal.returns-then-not-count_set-clause-limits
returns-then-not-count_set-clause-limits c = λ before t.
    let cell = c.args.cell.now in
    let h = c.args.handset.now in
    let sizes = c.args.sizes.now in
    let many = fills_are cell h sizes before c.args.place c.args.tally.now c.count_set.new.tally t
    (c.count_set.ensures.full c.if-not-count_set.true) in
    sym (exceeds cell h sizes (before ++ c.args.place ∷ []) (omega (arith, many)))

-- the tally counts one set more
tallied : (c : goal.After-keep_limits) (before : List ℕ)
    → Tallies c.args.cell.now c.args.handset.now c.args.sizes.now before c.args.tally.now
    → Tallies c.args.cell.now c.args.handset.now c.args.sizes.now (before ++ c.args.place ∷ []) c.count_set.new.tally
tallied c before t =
    tallies_more c.args.cell.now c.args.handset.now c.args.sizes.now before c.args.place c.args.tally.now c.count_set.new.tally t
    (c.count_set.ensures.counted c.if-not-count_set.false) (c.count_set.ensures.cces c.if-not-count_set.false)

pub returns-clause-limits : goal.returns-clause-limits
returns-clause-limits c = λ before t.
    let cell = c.args.cell.now in
    let h = c.args.handset.now in
    let sizes = c.args.sizes.now in
    let places = before ++ c.args.place ∷ [] in
    sym (limits_are cell h sizes places c.candidates-candidates.result c.cces-cces.result c.keep_limits.result
    (are_counts cell h sizes places c.count_set.new.tally c.candidates-candidates.result c.cces-cces.result (tallied c before t)
    c.candidates-candidates.ensures c.cces-cces.ensures.value c.cces-cces.ensures.size)
    c.keep_limits.ensures)

pub returns-clause-tally : goal.returns-clause-tally
returns-clause-tally c = λ before t _. tallied c before t
