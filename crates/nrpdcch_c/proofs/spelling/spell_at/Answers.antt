use Rattle.std.proofs.Common.{◌∙◌, ap, sym, Ok, refl}
use Rattle.dci_fields.proofs.FirstFieldFaults.{finds_field_fault}
use Rattle.monitor_plan.specs.Watch.{list_of}
use Rattle.nrpdcch_c.specs.Spelling.{grid_or_fault, spelled_on}
use Rattle.nrpdcch_c.proofs.Spellings.{faultless, keeps_blocks, spelled_is}
use Rattle.nrpdcch_c.proofs.spelling.spell_at.Goals as goal

pub returns-in-Ok-clause-answer : goal.returns-in-Ok-clause-answer
returns-in-Ok-clause-answer c =
    let watch = c.args.watch.now in
    let format = c.args.format in
    let given = c.args.given.now in
    let is = spelled_is c.args.tables.now watch format given c.args.grid c.spell.new.grid c.in-Ok.ensures.spelled in
    let none = faultless (list_of watch format) format given (λ fault h. let bad = (c.in-Ok.ensures.fault fault).1 h in cc) in
    ap Ok is ∙ sym (ap (grid_or_fault (spelled_on c.args.tables.now watch format given c.args.grid)) none)

pub returns-in-Ok-clause-blocks : goal.returns-in-Ok-clause-blocks
returns-in-Ok-clause-blocks c =
    let is = c.in-Ok.ensures.spelled in
    ap (λ g. g.blocks) is.written ∙ keeps_blocks _ _

pub returns-in-Err-clause-answer : goal.returns-in-Err-clause-answer
returns-in-Err-clause-answer c =
    let watch = c.args.watch.now in
    let format = c.args.format in
    let given = c.args.given.now in
    let fault = c.in-Err.fault in
    let found = (finds_field_fault (list_of watch format) format given fault).1 ((c.in-Err.ensures.fault fault).0 refl) in
    sym (ap (grid_or_fault (spelled_on c.args.tables.now watch format given c.args.grid)) found)
