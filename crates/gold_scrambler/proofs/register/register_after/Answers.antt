use Rattle.std.proofs.Common.{◌+◌, ◌/◌, ◌^◌, arith, sym, subst}
use Rattle.std.proofs.lemmas.Nat.{and_mask}
use Rattle.gold_scrambler.specs.Stretches.{HasBits}
use Rattle.gold_scrambler.proofs.Stretches.{passed}
use Rattle.gold_scrambler.proofs.register.register_after.Goals as goal

pub returns-clause-bits : goal.returns-clause-bits
returns-clause-bits c = λ x n window.
    subst (λ r. HasBits x (n + c.args.count) 31 r) (sym (and_mask (c.args.window / 2 ^ c.args.count) 31))
    (passed x n 59 c.args.window c.args.count 31 (omega arith) window)
