use Rattle.std.proofs.Common.{◌∙◌, ap, append_assoc}
use Rattle.std.proofs.lemmas.List.{append-nil}
use Rattle.plain_text.proofs.Appending.{appends_same}
use Rattle.report_text.specs.Refusal.{field_cause}
use Rattle.report_text.proofs.refusal.push_field_cause.Goals as goal

pub returns-in-Unknown : goal.returns-in-Unknown
returns-in-Unknown c =
    appends_same c.push_pieces.ensures
    (ap (field_cause c.args.grant.now) c.in-Unknown.is ∙ simp (append-nil, c.word_at.ensures))

pub returns-in-TooLarge : goal.returns-in-TooLarge
returns-in-TooLarge c =
    appends_same c.push_pieces-in-TooLarge.ensures
    (ap (field_cause c.args.grant.now) c.in-TooLarge.is
    ∙ simp (append_assoc, append-nil, c.word_at-in-TooLarge.ensures, c.value_at.ensures, c.from.ensures))
