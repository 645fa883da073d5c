use Rattle.plain_text.proofs.Appending.{appends_last}
use Rattle.report_text.specs.Explain.{format_text, heard_text}
use Rattle.report_text.proofs.explain.push_heard.Goals as goal

pub returns : goal.returns
unfolding heard_text
returns c =
    appends_last (format_text c.args.heard.now.format) c.in_ok-push_format.ensures.whole c.push_fields.ensures
    (simp c.entries.ensures.value)
