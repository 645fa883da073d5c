use Rattle.std.proofs.Common.{◌≡◌, ℕ, List, ◌++◌, All, sym, ap, ◌∙◌, subst}
use Rattle.coreset_map.specs.ControlResources.{cce_count}
use Rattle.monitor_budget.specs.declared.candidates.Candidate.{Candidate}
use Rattle.monitor_budget.specs.SetCandidates.{IsPlaced, set_candidates}
use Rattle.monitor_budget.proofs.Placed.{all_placed}
use Rattle.monitor_budget.proofs.space.Space.candidates.Goals as goal

pub returns-clause-placed : goal.returns-clause-placed
returns-clause-placed c =
    let s = c.args.self.now.set in
    let cces = cce_count c.args.self.now.resources in
    let sizes = c.as_slice.result.now in
    let made : c.push_set.new.out.items ≡ set_candidates cces sizes s =
    c.push_set.ensures.items
    ∙ ap (λ xs. xs ++ set_candidates c.cce_count-cces.result sizes s) c.new-out.ensures
    ∙ ap (λ (n : ℕ). set_candidates n sizes s) c.cce_count-cces.ensures.value in
    subst (λ (xs : List Candidate). All (IsPlaced cces s) xs) (sym made) (all_placed cces sizes s c.requires.legal.asked)
