use Rattle.std.proofs.Common.{◌∙◌, sym, arith}
use Rattle.rate_match.specs.declared.matching.Matching.TheVariants.{Repeated, Punctured, Shortened}
use Rattle.std.proofs.Math.Nat.{mod-eq_of_lt}
use Rattle.rate_match.proofs.Sent.{sent_by}
use Rattle.rate_match.proofs.packed.unsent_before.Goals as goal

pub returns-in-Repeated-clause-sent : goal.returns-in-Repeated-clause-sent
returns-in-Repeated-clause-sent c i l h =
    let place = sent_by c.args.n c.args.k c.args.e i Repeated (sym c.in-Repeated.is ∙ c.of.ensures.matching) in
    let first = mod-eq_of_lt h in
    omega arith

pub returns-in-Punctured-clause-sent : goal.returns-in-Punctured-clause-sent
returns-in-Punctured-clause-sent c i l h =
    let place = sent_by c.args.n c.args.k c.args.e i Punctured (sym c.in-Punctured.is ∙ c.of.ensures.matching) in
    omega arith

pub returns-in-Shortened-clause-sent : goal.returns-in-Shortened-clause-sent
returns-in-Shortened-clause-sent c i l h =
    let place = sent_by c.args.n c.args.k c.args.e i Shortened (sym c.in-Shortened.is ∙ c.of.ensures.matching) in
    omega arith
