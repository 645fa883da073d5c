use Rattle.std.proofs.Common.{refl, sym, subst, arith}
use Rattle.pdcch_app.specs.declared.arguments.Flag.TheVariants as flags
use Rattle.pdcch_app.specs.declared.words.Command.TheVariants.{Write, Search, Explain, Sweep}
use Rattle.pdcch_app.specs.Outcomes.{write_of, search_of, explain_of}
use Rattle.pdcch_app.specs.Words.{handset, value}
use Rattle.pdcch_app.proofs.NamedFiles.{holds_of_file, serves, work_four}
use Rattle.pdcch_app.proofs.Usages.{work_usage}
use Rattle.pdcch_app.proofs.top.answer_of.Goals as goal

pub returns-in-None : goal.returns-in-None
returns-in-None g c =
    work_usage c.args.words.now (g.S.Shelf.shows c.args.shelf.now) c.usage.result (sym c.in-None.ensures.command) c.usage.ensures

pub sweep-requires-clause-reliability : goal.sweep-requires-clause-reliability
sweep-requires-clause-reliability g c κs within =
    let s = serves c.args.words.now c.in-Some-Sweep.field-0 Sweep c.in-Some-Sweep.ensures.command
    c.in-Some-Sweep.ensures.files c.in-Some-Sweep.field-0-is in
    subst (g.S.Shelf.may c.args.shelf.now) (sym c.file-in-Some-Sweep.ensures)
    (holds_of_file (g.S.Shelf.may c.args.shelf.now) c.args.words.now Sweep 0 c.requires s (omega arith))

pub sweep-requires-clause-input_order : goal.sweep-requires-clause-input_order
sweep-requires-clause-input_order g c κs within =
    let s = serves c.args.words.now c.in-Some-Sweep.field-0 Sweep c.in-Some-Sweep.ensures.command
    c.in-Some-Sweep.ensures.files c.in-Some-Sweep.field-0-is in
    subst (g.S.Shelf.may c.args.shelf.now) (sym c.file-in-Some-Sweep-2.ensures)
    (holds_of_file (g.S.Shelf.may c.args.shelf.now) c.args.words.now Sweep 1 c.requires s (omega arith))

pub returns-in-Some-Write : goal.returns-in-Some-Write
returns-in-Some-Write g c =
    let s = serves c.args.words.now c.in-Some-Write.field-0 Write c.in-Some-Write.ensures.command
    c.in-Some-Write.ensures.files c.in-Some-Write.field-0-is in
    work_four c.args.words.now Write write_of (g.S.Shelf.shows c.args.shelf.now) (g.S.Shelf.shows c.write.new.shelf)
    c.write.result
    _ _ _ _ s refl refl
    c.file.ensures c.file-in-Some-Write.ensures c.file-in-Some-Write-2.ensures c.file-in-Some-Write-3.ensures c.write.ensures

pub returns-in-Some-Search : goal.returns-in-Some-Search
returns-in-Some-Search g c =
    let s = serves c.args.words.now c.in-Some-Search.field-0 Search c.in-Some-Search.ensures.command
    c.in-Some-Search.ensures.files c.in-Some-Search.field-0-is in
    work_four c.args.words.now Search (search_of (handset c.args.words.now)) (g.S.Shelf.shows c.args.shelf.now)
    (g.S.Shelf.shows c.search.new.shelf) c.search.result
    _ _ _ _ s refl refl
    c.file-in-Some-Search.ensures c.file-in-Some-Search-2.ensures c.file-in-Some-Search-3.ensures
    c.file-in-Some-Search-4.ensures c.search.ensures

pub returns-in-Some-Explain : goal.returns-in-Some-Explain
returns-in-Some-Explain g c =
    let s = serves c.args.words.now c.in-Some-Explain.field-0 Explain c.in-Some-Explain.ensures.command
    c.in-Some-Explain.ensures.files c.in-Some-Explain.field-0-is in
    work_four c.args.words.now Explain
    (explain_of (value c.args.words.now flags.Handset) (value c.args.words.now flags.Watch))
    (g.S.Shelf.shows c.args.shelf.now)
    (g.S.Shelf.shows c.explain.new.shelf) c.explain.result _ _ _ _ s refl refl
    c.file-in-Some-Explain.ensures c.file-in-Some-Explain-2.ensures c.file-in-Some-Explain-3.ensures
    c.file-in-Some-Explain-4.ensures c.explain.ensures
