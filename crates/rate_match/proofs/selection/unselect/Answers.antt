use Rattle.std.proofs.Common.{ℕ, length, subst, sym, ◌∙◌}
use Rattle.std.specs.Prelude.{IsTrue}
use Rattle.bits_core.specs.CodeLengths.{is_code_length}
use Rattle.rate_match.proofs.Lengths.{length_legal}
use Rattle.rate_match.proofs.selection.unselect.Goals as goal

pub first_differing-requires : goal.first_differing-requires
first_differing-requires g c =
    subst (λ (n : ℕ). IsTrue (is_code_length n)) (sym c.requires.size) (length_legal c.args.k (length c.args.bits.now))

pub unselect_bits-requires-clause-size : goal.unselect_bits-requires-clause-size
unselect_bits-requires-clause-size g c =
    subst (λ (n : ℕ). IsTrue (is_code_length n)) (sym (c.told-d ∙ c.requires.size))
    (length_legal c.args.k (length c.args.bits.now))
