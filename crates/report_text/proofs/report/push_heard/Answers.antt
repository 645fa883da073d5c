use Rattle.std.proofs.Common.{[], ◌∷◌, ◌++◌, refl, append_assoc}
use Rattle.std.specs.List.{flat_map}
use Rattle.plain_text.proofs.Appending.{appended_twice, appends_middle, appends_last}
use Rattle.report_text.specs.Report.{heard_start, heard_line, field_text}
use Rattle.report_text.proofs.report.push_heard.Goals as goal

pub returns-in_err-push_fields : goal.returns-in_err-push_fields
unfolding heard_line
returns-in_err-push_fields c =
    appends_middle c.from_residual-in_err-push_fields.result (heard_start c.args.watch.now c.args.format) (10 ∷ [])
    c.from_residual-in_err-push_fields.ensures.0 c.in_ok-push_start.ensures.whole c.in_err-push_fields.ensures.prefix
    (simp append_assoc)

pub returns : goal.returns
unfolding heard_line
returns c =
    let start = heard_start c.args.watch.now c.args.format in
    let fields = flat_map field_text c.args.fields.now in
    appends_last (start ++ fields)
    (appended_twice c.args.out.now.items start fields c.in_ok-push_start.ensures.whole c.in_ok-push_fields.ensures.whole)
    c.push_text.ensures refl
