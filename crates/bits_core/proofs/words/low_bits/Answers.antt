use Rattle.std.proofs.Common.{ℕ, ◌-◌, bit_and, ap, ◌∙◌}
use Rattle.std.proofs.lemmas.Nat.{and_mask, one_shl}
use Rattle.bits_core.proofs.words.low_bits.Goals as goal

pub returns : goal.returns
returns c =
    ap (λ (p : ℕ). bit_and c.args.word (p - 1)) (one_shl c.args.count 64 c.requires) ∙ and_mask c.args.word c.args.count
