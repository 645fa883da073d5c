use Rattle.std.proofs.Common.{ℕ, length, subst, sym, ◌∙◌}
use Rattle.std.specs.Prelude.{IsTrue}
use Rattle.bits_core.specs.CodeLengths.{is_code_length}
use Rattle.rate_match.proofs.Lengths.{length_legal}
use Rattle.rate_match.proofs.packed.unselect_words.Goals as goal

pub power-size-requires : goal.power-size-requires
power-size-requires g c =
    subst (λ (n : ℕ). IsTrue (is_code_length n)) (sym c.requires.size) (length_legal c.args.k (length c.args.bits.now))

pub difference-requires-clause-size : goal.difference-requires-clause-size
difference-requires-clause-size g c =
    subst (λ (n : ℕ). IsTrue (is_code_length n)) (sym (c.power-size.ensures ∙ c.requires.size))
    (length_legal c.args.k (length c.args.bits.now))

pub unselect_core-requires-clause-size : goal.unselect_core-requires-clause-size
unselect_core-requires-clause-size g c =
    subst (λ (n : ℕ). IsTrue (is_code_length n)) (sym (c.power-size.ensures ∙ c.requires.size))
    (length_legal c.args.k (length c.args.bits.now))
