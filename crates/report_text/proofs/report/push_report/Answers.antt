use Rattle.std.proofs.Common.{refl}
use Rattle.plain_text.proofs.Appending.{appends_last}
use Rattle.report_text.specs.Report.{report_text}
use Rattle.report_text.proofs.report.push_report.Goals as goal

pub returns : goal.returns
unfolding report_text
returns c = appends_last _ c.in_ok-push_handset.ensures.whole c.push_entries.ensures refl
