use Rattle.std.proofs.Common.{◌≡◌, ℕ, ◌+◌, List, [], take, drop, sym, ◌∙◌, ap, subst}
use Rattle.std.proofs.lemmas.List.{take_more, take_all, take-append-drop}
use Rattle.monitor_budget.specs.Tally.{Tallies}
use Rattle.monitor_budget.specs.Allotting.{keep_limits}
use Rattle.monitor_budget.proofs.TallyCounts.{tallies_none}
use Rattle.monitor_budget.proofs.Allotments.{front_keeps}
use Rattle.monitor_budget.proofs.Fronts.{keeps_none, fails_front}
use Rattle.monitor_budget.proofs.counting.keep_together.Goals as goal

pub loop-place-init : goal.loop-place-init
loop-place-init c = record {
  tally = tallies_none c.args.cell.now c.args.handset.now c.args.sizes.now c.args.tally.now c.requires.seen c.requires.marks;
  within = keeps_none c.args.cell.now c.args.handset.now c.args.sizes.now;
}

pub loop-place-preserved : goal.loop-place-preserved
loop-place-preserved c =
    let l = c.loop-place in
    record {
      tally =
          subst (λ (xs : List ℕ). Tallies c.args.cell.now c.args.handset.now c.args.sizes.now xs c.keeps_with.new.tally)
          (sym (take_more c.args.places.now l.place-index 0 c.loop-place-test.true))
          (c.keeps_with.ensures.tally (take l.place-index c.args.places.now) l.invariant.tally c.if-not-keeps_with.false);
      within = front_keeps c.args.cell.now c.args.handset.now c.args.sizes.now [] c.args.places.now l.place-index
          c.keeps_with.result c.loop-place-test.true
          (c.keeps_with.ensures.limits (take l.place-index c.args.places.now) l.invariant.tally) ∙ c.if-not-keeps_with.false;
    }

pub returns-then-not-keeps_with-clause-limits : goal.returns-then-not-keeps_with-clause-limits
returns-then-not-keeps_with-clause-limits c =
    let cell = c.args.cell.now in
    let h = c.args.handset.now in
    let sizes = c.args.sizes.now in
    let n = c.loop-place.place-index + 1 in
    let places = c.args.places.now in
    let kept = front_keeps cell h sizes [] places c.loop-place.place-index c.keeps_with.result c.loop-place-test.true
    (c.keeps_with.ensures.limits (take c.loop-place.place-index places) c.loop-place.invariant.tally)
    ∙ c.if-not-keeps_with.true in
    sym (ap (λ (xs : List ℕ). keep_limits cell h sizes xs) (sym (take-append-drop n places))
    ∙ fails_front cell h sizes (take n places) (drop n places) kept)

pub returns-clause-limits : goal.returns-clause-limits
returns-clause-limits c =
    let l = c.loop-place in
    let all : take l.place-index c.args.places.now ≡ c.args.places.now =
    take_all l.place-index c.args.places.now c.loop-place-test.false in
    sym (ap (λ (xs : List ℕ). keep_limits c.args.cell.now c.args.handset.now c.args.sizes.now xs) (sym all) ∙ l.invariant.within)

pub returns-clause-tally : goal.returns-clause-tally
returns-clause-tally c = λ _.
    let l = c.loop-place in
    subst (λ (xs : List ℕ). Tallies c.args.cell.now c.args.handset.now c.args.sizes.now xs l.tally)
    (take_all l.place-index c.args.places.now c.loop-place-test.false) l.invariant.tally
