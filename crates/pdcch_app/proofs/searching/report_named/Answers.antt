use Rattle.std.proofs.lemmas.Result.{err_from_is_err_and}
use Rattle.pdcch_app.proofs.Listeners.{ends_named, ends_unnamed}
use Rattle.pdcch_app.proofs.searching.report_named.Goals as goal

pub returns-in_err-handset : goal.returns-in_err-handset
returns-in_err-handset c =
    let p = err_from_is_err_and c.from_residual.result c.from_residual.ensures.1 in
    rw (p.1, p.2) (ends_unnamed c.args.cell.now c.args.tables.now c.args.grid.now c.args.name.now _ c.in_err-handset.ensures.read)

pub returns : goal.returns
returns c =
    ends_named c.args.cell.now c.args.tables.now c.args.grid.now c.args.name.now c.in_ok-handset.handset c.report_of.result
    c.in_ok-handset.ensures.read c.report_of.ensures
