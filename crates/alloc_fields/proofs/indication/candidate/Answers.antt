use Rattle.alloc_fields.proofs.SpanValues.{front_candidate, back_candidate, no_candidate}
use Rattle.alloc_fields.proofs.indication.candidate.Goals as goal

pub returns-then-quotient-blocks-clause-only : goal.returns-then-quotient-blocks-clause-only
returns-then-quotient-blocks-clause-only c = λ start len e.
    absurd (no_candidate c.args.n c.from-blocks.result start len c.args.number c.from-blocks.ensures c.if-quotient-blocks.true e)

pub returns-then-rest-quotient-clause-only : goal.returns-then-rest-quotient-clause-only
returns-then-rest-quotient-clause-only c = λ start len e.
    front_candidate c.args.n c.from-blocks.result start len c.args.number c.from-blocks.ensures c.if-rest-quotient.true e

pub returns-else-rest-quotient-clause-only : goal.returns-else-rest-quotient-clause-only
returns-else-rest-quotient-clause-only c = λ start len e.
    back_candidate c.args.n c.from-blocks.result start len c.args.number c.from-blocks.ensures c.if-rest-quotient.false e
