use Rattle.std.proofs.Common.{ℕ, ap, sym, subst}
use Rattle.slot_grid.specs.Grid.{GridValue}
use Rattle.monitor_plan.specs.Watch.{IsInside}
use Rattle.signal_tests.proofs.of_blind_search.granted.Goals as goal

pub spell-requires-clause-inside : goal.spell-requires-clause-inside
spell-requires-clause-inside g c =
    let watch = c.first_of-watch.result.now in
    subst (λ (n : ℕ). IsInside n watch) (sym (ap (λ (made : GridValue). made.blocks) c.in_ok-grid.ensures))
    (c.first_of-watch.ensures.inside c.args.blocks c.requires.inside)
