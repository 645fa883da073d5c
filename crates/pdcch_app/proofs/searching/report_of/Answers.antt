use Rattle.std.proofs.lemmas.Result.{err_from_is_err_and}
use Rattle.pdcch_app.proofs.Listeners.{reported_more, stopped_ends, all_ended}
use Rattle.pdcch_app.proofs.searching.report_of.Goals as goal

pub returns-in_err-push_handset : goal.returns-in_err-push_handset
returns-in_err-push_handset c =
    let p = err_from_is_err_and c.from_residual-in_err-push_handset.result c.from_residual-in_err-push_handset.ensures.1 in
    let l = c.loop-handset in
    rw (p.1, p.2)
    (stopped_ends c.args.cell.now c.args.tables.now c.args.grid.now c.args.first c.args.end l.handset l.text.items
    l.auto.handset c.loop-handset-test.true l.invariant.reported c.push_handset.new.text.items
    c.in_err-push_handset.field-0.0 c.in_err-push_handset.ensures.lines)

pub loop-handset-preserved : goal.loop-handset-preserved
loop-handset-preserved c =
    let l = c.loop-handset in
    record {
      reported =
          reported_more c.args.cell.now c.args.tables.now c.args.grid.now c.args.first c.args.end l.handset l.text.items
          l.auto.handset c.loop-handset-test.true l.invariant.reported c.push_handset.new.text.items
          c.in_ok-push_handset.ensures.lines;
      kept = c.in_ok-push_handset.ensures.codes;
    }

pub returns : goal.returns
returns c =
    let l = c.loop-handset in
    all_ended c.args.cell.now c.args.tables.now c.args.grid.now c.args.first c.args.end l.handset l.text.items
    c.new.result.items c.new-2.result c.loop-handset-test.false l.invariant.reported c.new-2.ensures c.new.ensures.items
