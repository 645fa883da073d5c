use Rattle.std.proofs.Common.{[], ◌∷◌, ◌++◌, refl, append_assoc}
use Rattle.plain_text.proofs.Appending.{appended_twice, appends_middle, appends_last}
use Rattle.report_text.specs.Explain.{watch_start, watch_line}
use Rattle.report_text.specs.Report.{watch_text}
use Rattle.report_text.proofs.explain.push_watch_line.Goals as goal

pub returns-in_err-push_watch : goal.returns-in_err-push_watch
unfolding watch_line
returns-in_err-push_watch c =
    appends_middle c.from_residual-in_err-push_watch.result (watch_start c.args.number) (10 ∷ [])
    c.from_residual-in_err-push_watch.ensures.0 c.in_ok-push_watch_start.ensures.whole c.in_err-push_watch.ensures.prefix
    (simp append_assoc)

pub returns : goal.returns
unfolding watch_line
returns c =
    let start = watch_start c.args.number in
    let watch = watch_text c.args.watch.now in
    appends_last (start ++ watch)
    (appended_twice c.args.out.now.items start watch c.in_ok-push_watch_start.ensures.whole c.in_ok-push_watch.ensures.whole)
    c.push_text.ensures refl
