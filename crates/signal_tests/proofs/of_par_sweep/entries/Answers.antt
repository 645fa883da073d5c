use Rattle.std.proofs.Common.{rules, ◌≡◌, ℕ, ◌<◌, List, All, length, ap, sym, subst, ◌∙◌}
use Rattle.std.proofs.lemmas.List.{get_or_default}
use Rattle.slot_grid.specs.Grid.{GridValue}
use Rattle.slot_grid.specs.Image.{blank_grid}
use Rattle.monitor_plan.specs.declared.watch.Watch.{Watch}
use Rattle.monitor_plan.specs.Watch.{IsInside}
use Rattle.par_sweep.specs.Jobs.{grid_at}
use Rattle.signal_tests.proofs.Entries.{can_search_each}
use Rattle.signal_tests.proofs.of_par_sweep.entries.Goals as goal

pub returns : goal.returns
returns g c =
    let grids = c.args.grids.now in
    let plans = c.loop.plans.items in
    let first = c.index-grids-0.result in
    let within : 0 < length grids = search rules in
    let told : c.blocks-blocks.result ≡ 51 = search rules in
    let there : first ≡ grid_at grids 0 =
    c.index-grids-0.is ∙ get_or_default grids 0 first (blank_grid 0 0 0 0) within in
    let blocks : (grid_at grids 0).blocks ≡ 51 =
    ap (λ (x : GridValue). x.blocks) (sym there) ∙ sym c.blocks-blocks.ensures.value ∙ told in
    can_search_each grids 0 plans c.in_ok-prepare_each.field-0.items within
    (subst (λ (n : ℕ). All (λ (plan : List Watch). All (IsInside n) plan) plans) (sym blocks) c.loop.invariant)
    c.in_ok-prepare_each.ensures
