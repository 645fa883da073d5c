use Rattle.std.proofs.Common.{refl}
use Rattle.plain_text.proofs.Appending.{appends_last}
use Rattle.report_text.specs.Explain.{answer_line, answer_text}
use Rattle.report_text.proofs.explain.push_answer_line.Goals as goal

pub returns : goal.returns
unfolding answer_line
returns c = appends_last (answer_text c.args.answer.now) c.in_ok-push_answer.ensures.whole c.push_text.ensures refl
