use Rattle.std.proofs.Common.{◌∙◌, ap}
use Rattle.std.proofs.lemmas.List.{append-nil}
use Rattle.plain_text.proofs.Appending.{appends_same}
use Rattle.report_text.specs.Refusal.{cause_text}
use Rattle.report_text.proofs.refusal.push_cause.Goals as goal

pub returns-in-UnknownSet : goal.returns-in-UnknownSet
returns-in-UnknownSet c = appends_same c.push_text-in-UnknownSet.ensures (ap (cause_text c.args.grant.now) c.in-UnknownSet.is)

pub returns-in-Unmonitored : goal.returns-in-Unmonitored
returns-in-Unmonitored c = appends_same c.push_text-in-Unmonitored.ensures (ap (cause_text c.args.grant.now) c.in-Unmonitored.is)

pub returns-in-Overlap : goal.returns-in-Overlap
returns-in-Overlap c =
    appends_same c.push_pieces.ensures (ap (cause_text c.args.grant.now) c.in-Overlap.is ∙ simp (append-nil, c.from.ensures))
