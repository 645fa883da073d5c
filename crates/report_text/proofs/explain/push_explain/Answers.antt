use Rattle.std.proofs.Common.{refl}
use Rattle.plain_text.proofs.Appending.{appends_last}
use Rattle.report_text.specs.Explain.{explain_text, watch_line}
use Rattle.report_text.proofs.explain.push_explain.Goals as goal

pub returns : goal.returns
unfolding explain_text
returns c =
    appends_last (watch_line c.args.number c.args.watch.now) c.in_ok-push_watch_line.ensures.whole c.push_answer_line.ensures refl
