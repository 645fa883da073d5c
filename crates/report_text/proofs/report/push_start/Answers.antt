use Rattle.std.proofs.Common.{append_assoc}
use Rattle.std.proofs.lemmas.List.{append-nil}
use Rattle.plain_text.proofs.Appending.{appends_last}
use Rattle.report_text.specs.Report.{heard_start, watch_text}
use Rattle.report_text.proofs.report.push_start.Goals as goal

pub returns : goal.returns
unfolding heard_start
returns c =
    appends_last (watch_text c.args.watch.now) c.in_ok-push_watch.ensures.whole c.push_pieces.ensures
    (simp (append_assoc, append-nil, c.word.ensures))
