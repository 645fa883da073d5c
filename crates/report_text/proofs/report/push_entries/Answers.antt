use Rattle.plain_text.proofs.Appending.{begun_at_item, appends_begun}
use Rattle.report_text.specs.Report.{entry_line}
use Rattle.report_text.proofs.report.push_entries.Goals as goal

pub returns-in_err-push_entry : goal.returns-in_err-push_entry
returns-in_err-push_entry c =
    appends_begun c.from_residual.result c.from_residual.ensures.0
    (begun_at_item (entry_line c.args.watches.now) c.args.heard.now c.loop-entry.entry-index c.entry-item.result
    c.in_err-push_entry.ensures.prefix c.entry-item.is c.loop-entry.invariant c.loop-entry-test.true)
