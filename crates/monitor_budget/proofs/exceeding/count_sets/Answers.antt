use Rattle.std.proofs.Common.{ℕ, List, length, take, get_or, sym, ap, subst, arith}
use Rattle.std.proofs.lemmas.List.{take_more}
use Rattle.monitor_budget.specs.declared.counted.Counted.{Counted}
use Rattle.monitor_budget.specs.Tally.{Tallies}
use Rattle.monitor_budget.proofs.TallyCounts.{tallies_none, tallies_more}
use Rattle.monitor_budget.proofs.exceeding.count_sets.Goals as goal

pub loop-place-init : goal.loop-place-init
loop-place-init c = record {
  tally = tallies_none c.args.cell.now c.args.handset.now c.args.sizes.now c.args.tally.now c.requires.seen c.requires.marks;
  few = let e = ap (λ (xs : List Counted). length xs) c.requires.seen in omega (arith, e);
}

pub loop-place-preserved : goal.loop-place-preserved
loop-place-preserved c =
    let h = c.args.handset.now in
    let l = c.loop-place in
    let all = c.count_set.ensures.fits (let a = l.invariant.few in let b = c.loop-place-test.true in let d = c.requires.few in
    omega (arith, a, b, d)) in
    record {
      tally =
          subst (λ (xs : List ℕ). Tallies c.args.cell.now h c.args.sizes.now xs c.count_set.new.tally)
          (sym (take_more c.args.places.now l.place-index 0 c.loop-place-test.true))
          (tallies_more c.args.cell.now h c.args.sizes.now (take l.place-index c.args.places.now)
          (get_or c.args.places.now l.place-index 0) l.tally c.count_set.new.tally
          l.invariant.tally (c.count_set.ensures.counted all) (c.count_set.ensures.cces all));
      few = let a = l.invariant.few in let b = c.count_set.ensures.few in omega (arith, a, b);
    }
