use Rattle.std.proofs.Common.{◌≡◌, List, ◌++◌, All, sym, ap, ◌∙◌, subst}
use Rattle.monitor_budget.specs.declared.candidates.Candidate.{Candidate}
use Rattle.monitor_budget.specs.SetCandidates.{AreAsked, IsPlaced, symbol_candidates}
use Rattle.monitor_budget.proofs.Placed.{symbol_placed}
use Rattle.monitor_budget.proofs.space.Space.candidates_at.Goals as goal

pub returns-clause-placed : goal.returns-clause-placed
returns-clause-placed c =
    let s = c.args.self.now.set in
    let cces = c.args.cces in
    let sizes = c.args.sizes.now in
    let made : c.push_symbol.new.out.items ≡ symbol_candidates cces sizes s c.args.symbol =
    c.push_symbol.ensures.items ∙ ap (λ xs. xs ++ symbol_candidates cces sizes s c.args.symbol) c.new-out.ensures in
    subst (λ (xs : List Candidate). All (IsPlaced cces s) xs) (sym made)
    (symbol_placed cces sizes s c.args.symbol
    (subst (λ n. AreAsked n s.candidates) (sym c.requires.cces) c.requires.legal.asked) c.requires.symbol c.requires.begins)
