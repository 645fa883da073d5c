use Rattle.std.proofs.Common.{append_assoc}
use Rattle.std.proofs.lemmas.List.{append-nil}
use Rattle.plain_text.proofs.Appending.{appends_same}
use Rattle.report_text.specs.Report.{watch_text}
use Rattle.report_text.proofs.report.push_watch.Goals as goal

pub returns : goal.returns
unfolding watch_text
returns c =
    appends_same c.push_pieces.ensures
    (simp (append_assoc, append-nil, c.from.ensures, c.from-2.ensures, c.from-3.ensures, c.from-4.ensures, c.from-5.ensures))
