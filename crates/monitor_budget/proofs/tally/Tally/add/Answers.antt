use Rattle.std.proofs.Common.{List, ◌∷◌, [], map, take, drop, length, sym, ◌∙◌, ap, subst, arith, get_or, refl}
use Rattle.std.proofs.lemmas.List.{map-append, take-append-drop}
use Rattle.monitor_budget.specs.declared.candidates.Candidate.{Candidate}
use Rattle.monitor_budget.specs.declared.counted.Counted.{Counted}
use Rattle.monitor_budget.specs.Counts.{cces_of_candidate, counted_as}
use Rattle.monitor_budget.specs.Tally.{AddsCounted}
use Rattle.monitor_budget.proofs.Adding.{counted_more, cces_more}
use Rattle.monitor_budget.proofs.tally.Tally.add.Goals as goal

abbrev no_candidate : Candidate
no_candidate = record { symbol = 0; level = 0; candidate = 0; start = 0; size = 0 }

pub loop-candidate-preserved : goal.loop-candidate-preserved
loop-candidate-preserved g c =
    let cs = c.args.candidates.now in
    let i = c.loop-candidate.candidate-index in
    let x = get_or cs i no_candidate in
    record {
      counted =
          counted_more c.args.self.now.seen.items c.loop-candidate.self.seen.items c.see.new.seen.items
          (counted_as c.args.set.now c.args.scramble) cs i
          no_candidate x c.loop-candidate-test.true refl c.loop-candidate.invariant.counted
          (subst (λ (y : Counted). AddsCounted c.loop-candidate.self.seen.items c.see.new.seen.items (y ∷ []))
          c.counted_as.ensures (c.see.ensures.counted c.if-not-see.false));
      cces =
          cces_more c.args.self.now.marks c.loop-candidate.self.marks c.set_all.new.self (cces_of_candidate c.args.set.now) cs i
          no_candidate x c.loop-candidate-test.true refl c.loop-candidate.invariant.cces c.set_all.ensures;
      few = let a = c.loop-candidate.invariant.few in let b = c.see.ensures.few in omega (arith, a, b);
    }

pub returns-then-not-see-clause-full : goal.returns-then-not-see-clause-full
returns-then-not-see-clause-full g c =
    let cs = c.args.candidates.now in
    let i = c.loop-candidate.candidate-index in
    let l = c.loop-candidate in
    let f = counted_as c.args.set.now c.args.scramble in
    let same = c.see.ensures.same c.if-not-see.true in
    let full = c.see.ensures.full c.if-not-see.true in
    let long = ap (λ (xs : List Counted). length xs) same in
    λ _. record {
      front = map f (take i cs);
      rest = map f (drop i cs);
      are = sym (ap (map f) (take-append-drop i cs)) ∙ map-append f (take i cs) (drop i cs);
      counted =
          subst (λ (xs : List Counted). AddsCounted c.args.self.now.seen.items xs (map f (take i cs))) (sym same)
          l.invariant.counted;
      full = omega (arith, full, long);
    }
