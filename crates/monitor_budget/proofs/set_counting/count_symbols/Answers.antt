use Rattle.std.proofs.Common.{◌≡◌, map, subst, arith}
use Rattle.std.specs.List.{range_with_len, flat_map}
use Rattle.monitor_budget.specs.Counts.{counted_as, cces_of_candidate}
use Rattle.monitor_budget.specs.SetCandidates.{set_candidates, candidates_among}
use Rattle.monitor_budget.specs.Tally.{AddsCces, AddsCounted}
use Rattle.monitor_budget.proofs.Adding.{counted_none, cces_none}
use Rattle.monitor_budget.proofs.SymbolCounts.{counted_symbol, cces_symbol, fills_symbol}
use Rattle.monitor_budget.proofs.set_counting.count_symbols.Goals as goal

pub loop-symbol-init : goal.loop-symbol-init
loop-symbol-init g c = record {
  counted = counted_none c.args.tally.now.seen.items;
  cces = cces_none c.args.tally.now.marks;
  few = omega arith;
}

pub loop-symbol-preserved : goal.loop-symbol-preserved
loop-symbol-preserved g c =
    let l = c.loop-symbol in
    let s = c.args.space.now.set in
    record {
      counted = counted_symbol c.args.cces c.args.sizes.now s c.args.scramble l.symbol c.args.tally.now.seen.items
          l.tally.seen.items c.count_symbol.new.tally.seen.items l.invariant.counted
          (c.count_symbol.ensures.counted c.if-not-count_symbol.false);
      cces = cces_symbol c.args.cces c.args.sizes.now s l.symbol c.args.tally.now.marks l.tally.marks
          c.count_symbol.new.tally.marks l.invariant.cces (c.count_symbol.ensures.cces c.if-not-count_symbol.false);
      few = let a = l.invariant.few in let b = c.count_symbol.ensures.few in omega (arith, a, b);
    }

pub returns-then-not-count_symbol-clause-full : goal.returns-then-not-count_symbol-clause-full
unfolding set_candidates
returns-then-not-count_symbol-clause-full g c =
    let l = c.loop-symbol in
    let below = c.loop-symbol-test.true in
    λ _. fills_symbol g.row.N c.args.cces c.args.sizes.now c.args.space.now.set c.args.scramble l.symbol
    c.args.tally.now.seen.items l.tally.seen.items c.count_symbol.new.tally.seen.items (omega (arith, below))
    l.invariant.counted (c.count_symbol.ensures.full c.if-not-count_symbol.true)

pub returns-clause-counted : goal.returns-clause-counted
unfolding set_candidates
returns-clause-counted g c =
    let l = c.loop-symbol in
    let s = c.args.space.now.set in
    let e : l.symbol ≡ 14 = let h = c.loop-symbol-test.false in let k = l.auto.symbol-end in omega (arith, h, k) in
    λ _. subst (λ n. AddsCounted c.args.tally.now.seen.items l.tally.seen.items
    (map (counted_as s c.args.scramble) (candidates_among c.args.cces c.args.sizes.now s (range_with_len 0 n)))) e
    l.invariant.counted

pub returns-clause-cces : goal.returns-clause-cces
unfolding set_candidates
returns-clause-cces g c =
    let l = c.loop-symbol in
    let s = c.args.space.now.set in
    let e : l.symbol ≡ 14 = let h = c.loop-symbol-test.false in let k = l.auto.symbol-end in omega (arith, h, k) in
    λ _. subst (λ n. AddsCces c.args.tally.now.marks l.tally.marks
    (flat_map (cces_of_candidate s) (candidates_among c.args.cces c.args.sizes.now s (range_with_len 0 n)))) e
    l.invariant.cces
