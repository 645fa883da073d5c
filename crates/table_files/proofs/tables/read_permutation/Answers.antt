use Rattle.std.proofs.Common.{◌≡◌, rules, arith, List, ℕ, Result, Ok}
use Rattle.table_files.specs.TableText.{read_table}
use Rattle.table_files.specs.declared.fault.TableFault.{TableFault}
use Rattle.table_files.proofs.WhatIsSpelled.{answers_where_spelled}
use Rattle.table_files.proofs.tables.read_permutation.Goals as goal

pub returns-in_err-read_numbers-clause-spelled : goal.returns-in_err-read_numbers-clause-spelled
returns-in_err-read_numbers-clause-spelled g c =
    let same : c.from_residual.result ≡ read_table g.row.N c.args.bytes.now = search rules in
    answers_where_spelled g.row.N c.args.bytes.now c.from_residual.result (omega arith) same

pub returns-clause-spelled : goal.returns-clause-spelled
returns-clause-spelled g c =
    let answer : Result (List ℕ) TableFault = Ok c.read_numbers.new.numbers in
    let same : answer ≡ read_table g.row.N c.args.bytes.now = search rules in
    answers_where_spelled g.row.N c.args.bytes.now answer (omega arith) same
