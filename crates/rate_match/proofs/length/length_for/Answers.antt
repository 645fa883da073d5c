use Rattle.std.proofs.Common.{ℕ, rules, subst, sym}
use Rattle.std.specs.Prelude.{IsTrue}
use Rattle.bits_core.specs.CodeLengths.{is_code_length}
use Rattle.rate_match.specs.MotherCode.{length_of}
use Rattle.rate_match.proofs.Lengths.{length_legal}
use Rattle.rate_match.proofs.length.length_for.Goals as goal

pub returns-clause-length : goal.returns-clause-length
unfolding length_of
returns-clause-length c = search rules

pub returns-clause-legal : goal.returns-clause-legal
returns-clause-legal c =
    subst (λ (n : ℕ). IsTrue (is_code_length n)) (sym (returns-clause-length c)) (length_legal c.args.k c.args.e)
