use Rattle.plain_text.proofs.Appending.{begun_at, appends_begun}
use Rattle.report_text.specs.Report.{field_text}
use Rattle.report_text.proofs.report.push_fields.Goals as goal

pub returns-in_err-push_field : goal.returns-in_err-push_field
returns-in_err-push_field c =
    appends_begun c.from_residual.result c.from_residual.ensures.0
    (begun_at field_text c.args.fields.now c.loop-field.field-index _ c.in_err-push_field.ensures.prefix
    c.loop-field.invariant c.loop-field-test.true)
