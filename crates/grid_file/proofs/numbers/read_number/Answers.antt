use Rattle.std.proofs.Common.{◌⊎◌, ◌<◌, ◌≤◌, sym, subst, arith}
use Rattle.grid_file.proofs.NumberSteps.{number_first, number_more, leaves_no_digit, leaves_first_digit, leaves_digit}
use Rattle.grid_file.proofs.NumberSteps.{leaves_small, first_of_two}
use Rattle.grid_file.proofs.numbers.read_number.Goals as goal

pub returns-in_default-clause-leaves : goal.returns-in_default-clause-leaves
returns-in_default-clause-leaves c =
    leaves_no_digit c.args.bytes.now c.args.at c.args.least c.args.limit c.requires.range (sym c.in_default.ensures.value)

pub returns-then-first-min-clause-leaves : goal.returns-then-first-min-clause-leaves
returns-then-first-min-clause-leaves c =
    leaves_first_digit c.args.bytes.now c.args.at c.args.least c.args.limit c.in-Some.first c.requires.range
    (sym c.in-Some.ensures.value)
    (subst (λ m. (c.in-Some.first < m) ⊎ (c.args.limit ≤ c.in-Some.first)) c.min.ensures (first_of_two c.then-first-min.either))

pub loop-digit-init : goal.loop-digit-init
loop-digit-init c =
    number_first c.args.bytes.now c.args.at c.args.least c.args.limit c.in-Some.first (sym c.in-Some.ensures.value)
    c.in-Some.ensures.within
    c.if-first-limit.false (omega arith)

pub returns-then-number-eq0-clause-leaves : goal.returns-then-number-eq0-clause-leaves
returns-then-number-eq0-clause-leaves c =
    let l = c.loop-digit in
    leaves_digit c.args.bytes.now c.args.at c.args.least c.args.limit l.number.value l.number.next c.in-Some-digit_at.digit
    c.requires.range l.invariant
    (sym c.in-Some-digit_at.ensures.value) (first_of_two c.then-number-eq0.either)

pub loop-digit-preserved : goal.loop-digit-preserved
loop-digit-preserved c =
    let l = c.loop-digit in
    number_more c.args.bytes.now c.args.at c.args.least c.args.limit l.number.value l.number.next c.in-Some-digit_at.digit
    c.requires.range.most l.invariant
    (sym c.in-Some-digit_at.ensures.value) c.in-Some-digit_at.ensures.within (omega arith) c.if-longer-limit.false

pub returns-then-number-least-clause-leaves : goal.returns-then-number-least-clause-leaves
returns-then-number-least-clause-leaves c =
    let l = c.loop-digit in
    leaves_small c.args.bytes.now c.args.at c.args.least c.args.limit l.number.value l.number.next c.requires.range l.invariant
    (sym c.in_default-digit_at.ensures.value) c.if-number-least.true
