use Rattle.std.proofs.Common.{List, ◌∙◌, ap}
use Rattle.std.specs.List.{list_any}
use Rattle.monitor_budget.specs.declared.counted.Counted.{Counted}
use Rattle.monitor_budget.specs.contracts.counted.CountedPartialEq.TheImpl as counted
use Rattle.monitor_budget.proofs.Adding.{found_seen, see-new, see_old}
use Rattle.monitor_budget.proofs.tally.see.Goals as goal

pub returns-then-contains-clause-counted : goal.returns-then-contains-clause-counted
returns-then-contains-clause-counted g c =
    let x = c.args.counted in
    let found = found_seen c.args.seen.now.items x c.contains.result
    (c.contains.ensures.value ∙ ap (λ (xs : List Counted). list_any (λ y. counted.ghosts.eq y x) xs) c.as_slice.ensures.value) in
    λ _. see_old c.args.seen.now.items x (found ∙ c.if-contains.true)

pub returns-clause-counted : goal.returns-clause-counted
returns-clause-counted g c =
    let x = c.args.counted in
    let found = found_seen c.args.seen.now.items x c.contains.result
    (c.contains.ensures.value ∙ ap (λ (xs : List Counted). list_any (λ y. counted.ghosts.eq y x) xs) c.as_slice.ensures.value) in
    λ _. see-new c.args.seen.now.items c.push.new.self.items x (found ∙ c.if-contains.false) c.push.ensures.items
