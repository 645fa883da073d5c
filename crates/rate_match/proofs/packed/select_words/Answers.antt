use Rattle.std.proofs.Common.{ℕ, subst, sym, ◌∙◌}
use Rattle.std.specs.Prelude.{IsTrue}
use Rattle.bits_core.specs.CodeLengths.{is_code_length}
use Rattle.rate_match.proofs.Lengths.{length_legal}
use Rattle.rate_match.proofs.packed.select_words.Goals as goal

pub power-requires : goal.power-requires
power-requires g c =
    subst (λ (n : ℕ). IsTrue (is_code_length n)) (sym c.requires.size) (length_legal c.args.k c.args.e)

pub select_core-requires-clause-size : goal.select_core-requires-clause-size
select_core-requires-clause-size g c =
    subst (λ (n : ℕ). IsTrue (is_code_length n)) (sym (c.power.ensures ∙ c.requires.size))
    (length_legal c.args.k c.args.e)
