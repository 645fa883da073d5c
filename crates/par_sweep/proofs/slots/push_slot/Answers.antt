use Rattle.std.proofs.Common.{◌≡◌, List, [], ◌∷◌, ◌++◌, length, ap, ◌∙◌, arith}
use Rattle.std.proofs.lemmas.Result.{MatchResult-weaker}
use Rattle.grant_file.specs.declared.grants.Grant.{Grant}
use Rattle.grant_file.specs.declared.grants.GrantList.{GrantList}
use Rattle.cell_placer.specs.Placing.{DeskValue}
use Rattle.par_sweep.specs.declared.slots.Counts.{Counts}
use Rattle.par_sweep.specs.LoadGrants.{load_grants}
use Rattle.par_sweep.proofs.SlotDesks.{always, count_of_grants, counts_there, grid_of, no_calls, pushed}
use Rattle.par_sweep.proofs.slots.push_slot.Goals as goal

pub place_all-counted-requires-clause-few : goal.place_all-counted-requires-clause-few
place_all-counted-requires-clause-few c =
    let t = c.args.t in
    let calls = ap (λ (d : DeskValue). d.ledger.calls) c.in_ok-desk.ensures ∙ no_calls t in
    let grants = ap (λ (gs : List Grant). length gs)
    (c.as_slice.ensures ∙ ap (λ (l : GrantList). l.grants) c.in_ok-list.ensures) ∙ count_of_grants t in
    omega (arith, calls, grants)

pub returns-clause-grids : goal.returns-clause-grids
returns-clause-grids c =
    let grants : c.as_slice.result.now ≡ (load_grants c.args.t).grants = c.as_slice.ensures
    ∙ ap (λ (l : GrantList). l.grants) c.in_ok-list.ensures in
    let grid =
    grid_of c.args.tables.now c.args.t c.in_ok-desk.ensures grants c.place_all-counted.ensures.desk c.into_grid.ensures
    in
    always c.push_value-2.result _
    (pushed c.args.grids.now.items c.in_ok-push_value.ensures grid)

pub returns-clause-counts : goal.returns-clause-counts
returns-clause-counts c =
    let grants : c.as_slice.result.now ≡ (load_grants c.args.t).grants = c.as_slice.ensures
    ∙ ap (λ (l : GrantList). l.grants) c.in_ok-list.ensures in
    let counts = counts_there c.args.t c.in_ok-desk.ensures grants c.place_all-counted.ensures.counts in
    MatchResult-weaker c.push_value-2.result c.push_value-2.ensures
    (λ x e. e ∙ ap (λ (k : Counts). c.args.counts.now.items ++ k ∷ []) counts) (λ y n. n)
