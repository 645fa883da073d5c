use Rattle.std.proofs.Common.{Ok, Err, subst}
use Rattle.polar_chain.specs.Decoding.{IsOutcome}
use Rattle.polar_chain.specs.declared.no_word.NoWord.TheVariants.{Repeat}
use Rattle.polar_chain.proofs.Codes.{one_outcome}
use Rattle.polar_chain.proofs.code.Code.decode.Goals as goal

pub returns-clause-word : goal.returns-clause-word
returns-clause-word c block = (
  (λ e. subst (IsOutcome c.args.self.now c.args.bits.now) e c.decode_core.ensures.outcome),
  (λ h. one_outcome c.args.self.now c.args.bits.now c.decode_core.result (Ok block) c.decode_core.ensures.sound
      c.decode_core.ensures.outcome h),
)

pub returns-clause-repeat : goal.returns-clause-repeat
returns-clause-repeat c at = (
  (λ e. subst (IsOutcome c.args.self.now c.args.bits.now) e c.decode_core.ensures.outcome),
  (λ h. one_outcome c.args.self.now c.args.bits.now c.decode_core.result (Err (Repeat at)) c.decode_core.ensures.sound
      c.decode_core.ensures.outcome h),
)
