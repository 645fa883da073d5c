use Rattle.std.proofs.Common.{[], ◌∷◌, ◌++◌, refl, append_assoc}
use Rattle.plain_text.proofs.Appending.{appended_twice, appends_middle, appends_last}
use Rattle.report_text.specs.Refusal.{cause_text, refusal_start, refusal_line}
use Rattle.report_text.proofs.refusal.push_refusal.Goals as goal

pub returns-in_err-push_cause : goal.returns-in_err-push_cause
unfolding refusal_line
returns-in_err-push_cause c =
    appends_middle c.from_residual-in_err-push_cause.result (refusal_start c.args.number) (10 ∷ [])
    c.from_residual-in_err-push_cause.ensures.0 c.in_ok-push_start.ensures.whole c.in_err-push_cause.ensures.prefix
    (simp append_assoc)

pub returns : goal.returns
unfolding refusal_line
returns c =
    let start = refusal_start c.args.number in
    let cause = cause_text c.args.grant.now c.args.refusal.now in
    appends_last (start ++ cause)
    (appended_twice c.args.out.now.items start cause c.in_ok-push_start.ensures.whole c.in_ok-push_cause.ensures.whole)
    c.push_text.ensures refl
