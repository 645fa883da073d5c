use Rattle.std.proofs.lemmas.Result.{err_from_is_err_and}
use Rattle.pdcch_app.proofs.Explainings.{unnamed_explained, over_explained, watches_explained}
use Rattle.pdcch_app.proofs.explaining.explain_named.Goals as goal

pub returns-in_err-handset : goal.returns-in_err-handset
returns-in_err-handset c =
    let p = err_from_is_err_and c.from_residual.result c.from_residual.ensures.1 in
    rw (p.1, p.2) (unnamed_explained c.args.cell.now c.args.tables.now c.args.grid.now c.args.name.now c.args.word.now _
    c.in_err-handset.ensures.read)

pub returns-in_err-plan : goal.returns-in_err-plan
returns-in_err-plan c =
    let p = err_from_is_err_and c.from_residual-in_err-plan.result c.from_residual-in_err-plan.ensures.1 in
    rw (p.1, p.2)
    (over_explained c.args.cell.now c.args.tables.now c.args.grid.now c.args.name.now c.args.word.now
    c.in_ok-handset.handset _ c.in_ok-handset.ensures.read c.in_err-plan.ensures.read)

pub returns : goal.returns
returns c =
    watches_explained c.args.cell.now c.args.tables.now c.args.grid.now c.args.name.now c.args.word.now
    c.in_ok-handset.handset c.in_ok-plan.plan c.explain_among.result
    c.in_ok-handset.ensures.read c.in_ok-plan.ensures.read c.explain_among.ensures
