use Rattle.std.proofs.Common.{arith}
use Rattle.std.proofs.lemmas.Grind.{common_steps}
use Rattle.nrpdcch_c.proofs.planning.plan_or_over.Goals as goal

pub returns-in-Err-CommonOver-clause-answer : goal.returns-in-Err-CommonOver-clause-answer
returns-in-Err-CommonOver-clause-answer c =
    let over = c.of.ensures.over c.in-Err-CommonOver.field-0-0 c.in-Err-CommonOver.field-0-1 in
    let is = c.in-Err-CommonOver.is in
    grind (arith, common_steps)
