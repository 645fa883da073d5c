use Rattle.std.proofs.Common.{◌≡◌, ℕ, ◌+◌, List, ◌++◌, ◌∷◌, [], true, take, get_or, sym, ap, ◌∙◌, subst}
use Rattle.std.proofs.lemmas.List.{append-nil}
use Rattle.monitor_budget.specs.declared.allotment.Allotment.{Allotment}
use Rattle.monitor_budget.specs.Tally.{Tallies}
use Rattle.monitor_budget.specs.Allotting.{allotment_of, keep_limits}
use Rattle.monitor_budget.proofs.Fronts.{front_all, front_stops}
use Rattle.monitor_budget.proofs.Allotments.{are_counts, allotment_made, front_more, front_keeps}
use Rattle.monitor_budget.proofs.allotment.with_own.Goals as goal

pub loop-place-init : goal.loop-place-init
loop-place-init c =
    let h = c.args.handset.now in
    let n : c.args.common.items ≡ c.args.common.items ++ [] = sym (append-nil c.args.common.items) in
    let t = subst (λ (xs : List ℕ). Tallies c.args.cell.now h c.args.sizes.now xs c.args.tally.now) n c.requires.tally in
    record {
      allotment =
          allotment_made c.args.cell.now h c.args.sizes.now (c.args.common.items ++ []) c.args.common c.candidates.result
          c.cces.result n
          (are_counts c.args.cell.now h c.args.sizes.now (c.args.common.items ++ []) c.args.tally.now c.candidates.result
          c.cces.result t c.candidates.ensures c.cces.ensures.value c.cces.ensures.size);
      tally = t;
      within = subst (λ (xs : List ℕ). keep_limits c.args.cell.now h c.args.sizes.now xs ≡ true) n c.requires.within;
    }

pub returns-then-not-keeps_with : goal.returns-then-not-keeps_with
returns-then-not-keeps_with c =
    let cell = c.args.cell.now in
    let h = c.args.handset.now in
    let sizes = c.args.sizes.now in
    let l = c.loop-place in
    let common = c.args.common.items in
    let own = c.args.own.now in
    let kept = front_keeps cell h sizes common own l.place-index c.keeps_with.result c.loop-place-test.true
    (c.keeps_with.ensures.limits (common ++ take l.place-index own) l.invariant.tally) ∙ c.if-not-keeps_with.true in
    l.invariant.allotment
    ∙ ap (λ xs. allotment_of cell h sizes (common ++ xs))
    (sym (front_stops cell h sizes common own l.place-index c.loop-place-test.true l.invariant.within
    kept))

pub loop-place-preserved : goal.loop-place-preserved
loop-place-preserved c =
    let cell = c.args.cell.now in
    let h = c.args.handset.now in
    let sizes = c.args.sizes.now in
    let l = c.loop-place in
    let i = l.place-index in
    let common = c.args.common.items in
    let own = c.args.own.now in
    let places = common ++ take (i + 1) own in
    let t = subst (λ (xs : List ℕ). Tallies cell h sizes xs c.keeps_with.new.tally)
    (front_more common own i c.loop-place-test.true)
    (c.keeps_with.ensures.tally (common ++ take i own) l.invariant.tally c.if-not-keeps_with.false) in
    record {
      allotment = allotment_made cell h sizes places c.push.new.self c.candidates-in-loop-place.result c.cces-in-loop-place.result
          (c.push.ensures.items
          ∙ ap (λ (a : Allotment). a.sets.items ++ get_or own i 0 ∷ []) l.invariant.allotment
          ∙ front_more common own i c.loop-place-test.true)
          (are_counts cell h sizes places c.keeps_with.new.tally c.candidates-in-loop-place.result c.cces-in-loop-place.result t
          c.candidates-in-loop-place.ensures c.cces-in-loop-place.ensures.value c.cces-in-loop-place.ensures.size);
      tally = t;
      within = front_keeps cell h sizes common own i c.keeps_with.result c.loop-place-test.true
          (c.keeps_with.ensures.limits (common ++ take i own) l.invariant.tally) ∙ c.if-not-keeps_with.false;
    }

pub returns : goal.returns
returns c =
    let h = c.args.handset.now in
    let l = c.loop-place in
    let all = front_all c.args.cell.now h c.args.sizes.now c.args.common.items c.args.own.now l.place-index
    c.loop-place-test.false l.invariant.within in
    l.invariant.allotment ∙ ap (λ xs. allotment_of c.args.cell.now h c.args.sizes.now (c.args.common.items ++ xs)) (sym all)
