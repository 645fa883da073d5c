use Rattle.std.proofs.Common.{[]}
use Rattle.std.proofs.lemmas.Result.{IfErr-weaker}
use Rattle.grid_file.specs.Fields.{LeavesFieldAt}
use Rattle.grid_file.proofs.Exits.{exit_keeps}
use Rattle.grid_file.proofs.Words.{word_leaves, leaves_number}
use Rattle.grid_file.proofs.numbers.read_field.Goals as goal

pub returns-in_err-next-clause-leaves : goal.returns-in_err-next-clause-leaves
returns-in_err-next-clause-leaves c =
    let a = c.args in
    let fault = c.in_err-next.field-0.0 in
    exit_keeps (λ f. LeavesFieldAt a.word.now a.least a.limit a.bytes.now a.at f.at) c.from_residual.result fault
    c.from_residual.ensures.1
    (word_leaves a.word.now a.least a.limit a.bytes.now a.at fault.at c.requires.range.some c.in_err-next.ensures.leaves)

pub returns-clause-leaves : goal.returns-clause-leaves
returns-clause-leaves c =
    let a = c.args in
    let next = c.in_ok-next.next in
    IfErr-weaker c.read_number.result (λ f. LeavesFieldAt [] a.least a.limit a.bytes.now next f.at)
    (λ f. LeavesFieldAt a.word.now a.least a.limit a.bytes.now a.at f.at)
    (λ f leaves. leaves_number a.word.now a.least a.limit a.bytes.now a.at next f.at c.in_ok-next.ensures.read leaves)
    c.read_number.ensures.leaves
